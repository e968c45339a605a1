-- A block that is tested leaves room for the elements ahead, and where the letters stand nowhere in
-- it, the law `ruled_out` gives its index. Assumes nothing.
use mathlib.Core.Path.{◌∙◌}
use Rattle.scan.proofs.Scans.{block_passed, testable}
use Rattle.scan.proofs.pass.Goals as goal

pub may_start-requires : goal.may_start-requires
may_start-requires g c =
    let a = c.args in
    testable g.T.Element.reads g.T.Element.words a.operand1.now a.l a.part.now c.unasked-rows.result c.COUNT-b.result c.loop-i.i (c.COUNT-b.ensures ∙ g.T.Element.counted) c.unasked-rows.ensures _ c.min.ensures c.loop-i-test.true c.requires.some

pub loop-i-preserved : goal.loop-i-preserved
loop-i-preserved g c =
    let a = c.args in
    block_passed g.T.Element.reads g.T.Element.words a.operand1.now a.l a.part.now c.unasked-rows.result c.COUNT-b.result c.loop-i.i (c.COUNT-b.ensures ∙ g.T.Element.counted) c.unasked-rows.ensures _ c.min.ensures c.loop-i-test.true c.loop-i.invariant (c.may_start.ensures c.if-may_start.false)
