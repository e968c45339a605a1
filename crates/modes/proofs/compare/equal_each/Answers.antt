-- `modes::compare::equal_each` meets its contract, bit by bit: equal and both valid, or both
-- invalid. Assumes nothing.
use Rattle.std.proofs.Common.{◌∙◌}
use Rattle.unit.proofs.Modes.{each_made}
use Rattle.modes.proofs.Widths.{most, ones}
use Rattle.modes.proofs.compare.equal_each.Goals as goal

pub returns : goal.returns
returns g c =
    let n = g.row.N in
    let few = most g.T.Element.words n (g.met.T.Block.sized ∙ g.T.Element.counted) in
    each_made n _ c.args.l1 _ c.args.l2 c.alike.result c.first-v1.result c.first-v2.result c.first.result few c.requires.0 c.requires.1
    (ones n c.first.result few c.first.ensures) c.alike.ensures c.first-v1.ensures c.first-v2.ensures
