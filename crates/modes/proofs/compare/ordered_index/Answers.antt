-- `modes::compare::ordered_index` meets its contract: the index is the least bit of the mode's
-- number. Assumes nothing.
use Rattle.std.proofs.Common.{◌∙◌, arith, min}
use Rattle.bits.proofs.Numbers.{least_or}
use Rattle.unit.specs.Modes.{ordered_of}
use Rattle.modes.proofs.Widths.{most}
use Rattle.modes.proofs.compare.ordered_index.Goals as goal

pub returns : goal.returns
returns g c =
    let a = c.args in
    let n = g.row.N in
    let few = most g.T.Element.words n (g.met.T.Block.sized ∙ g.T.Element.counted) in
    c.unwrap_or.ensures
    ∙ least_or n _ c.least.result (ordered_of n (g.T.Element.numbers a.x1.now) (min n a.length1) (g.T.Element.numbers a.x2.now) (min n a.length2)) (omega (arith, few))
    (rw (c.min-l1.ensures, c.min-l2.ensures) at c.equal_ordered-found.ensures) c.least.ensures
