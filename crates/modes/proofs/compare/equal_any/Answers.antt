-- `modes::compare::equal_any` meets its contract. The invariant: `found` has the bits of the valid
-- elements of x2 that are among the first i of x1. Where every valid one is found, the rest of x1
-- adds nothing. Assumes nothing.
use Rattle.std.proofs.Common.{◌∙◌, ◌+◌, arith}
use Rattle.unit.proofs.Modes.{any_start, any_more, any_full}
use Rattle.modes.proofs.Widths.{most}
use Rattle.modes.proofs.compare.equal_any.Goals as goal

pub loop-i-init : goal.loop-i-init
loop-i-init g c =
    let few = most g.T.Element.words g.row.N (g.met.T.Block.sized ∙ g.T.Element.counted) in
    any_start g.row.N (g.T.Element.numbers c.args.x1.now) (g.T.Element.numbers c.args.x2.now) c.args.l2 few c.requires.1

pub loop-i-preserved : goal.loop-i-preserved
loop-i-preserved g c =
    let n = g.row.N in
    let few = most g.T.Element.words n (g.met.T.Block.sized ∙ g.T.Element.counted) in
    let y = c.index-x1-i in
    let x₂ = g.T.Element.numbers c.args.x2.now in
    let read = g.T.Element.reads.at c.args.x1.now c.loop-i.i y.result (omega (arith, c.told-x1)) y.is in
    any_more n (g.T.Element.numbers c.args.x1.now) x₂ c.args.l2 few c.requires.1 c.loop-i.i c.loop-i.found c.same.result c.first-valid.result c.loop-i.invariant (rw (read, y.is) c.same.ensures) c.first-valid.ensures

pub returns-then-found-valid : goal.returns-then-found-valid
returns-then-found-valid g c =
    let n = g.row.N in
    let few = most g.T.Element.words n (g.met.T.Block.sized ∙ g.T.Element.counted) in
    let y = c.index-x1-i in
    let x₁ = g.T.Element.numbers c.args.x1.now in
    let x₂ = g.T.Element.numbers c.args.x2.now in
    let read = g.T.Element.reads.at c.args.x1.now c.loop-i.i y.result (omega (arith, c.told-x1)) y.is in
    any_full n x₁ x₂ c.args.l2 few c.requires.1 (c.loop-i.i + 1) c.args.l1 _ c.first-valid.result (omega arith)
    (any_more n x₁ x₂ c.args.l2 few c.requires.1 c.loop-i.i c.loop-i.found c.same.result c.first-valid.result c.loop-i.invariant (rw (read, y.is) c.same.ensures) c.first-valid.ensures)
    c.first-valid.ensures c.if-found-valid.true
