-- `modes::compare::aggregated` meets its contract: each mode's number is that of IntRes1 at its
-- aggregation. Assumes nothing.
use Rattle.std.proofs.Common.{refl, ◌∙◌}
use Rattle.modes.specs.Widths.{at_width}
use Rattle.unit.proofs.Unit.{any_is, ranges_is, each_is, ordered_is}
use Rattle.modes.proofs.compare.aggregated.Goals as goal

pub returns-in-EqualAny : goal.returns-in-EqualAny
returns-in-EqualAny g c =
    let a = c.args in
    let t = g.T.Element in
    let e = g.met.T.Block.sized ∙ t.counted in
    rw e (rw e at c.equal_any.ensures ∙ any_is (at_width t.words a.k) t.words refl (t.numbers a.x1.now) a.l1 (t.numbers a.x2.now) a.l2 (rw e at c.requires.0) c.in-EqualAny.is)

pub returns-in-Ranges : goal.returns-in-Ranges
returns-in-Ranges g c =
    let a = c.args in
    let t = g.T.Element in
    let e = g.met.T.Block.sized ∙ t.counted in
    rw e (rw e at c.ranges-in-Ranges.ensures ∙ ranges_is (at_width t.words a.k) t.words refl (t.numbers a.x1.now) a.l1 (t.numbers a.x2.now) a.l2 (rw e at c.requires.0) c.in-Ranges.is)

pub returns-in-EqualEach : goal.returns-in-EqualEach
returns-in-EqualEach g c =
    let a = c.args in
    let t = g.T.Element in
    let e = g.met.T.Block.sized ∙ t.counted in
    rw e (rw e at c.equal_each.ensures ∙ each_is (at_width t.words a.k) t.words refl (t.numbers a.x1.now) a.l1 (t.numbers a.x2.now) a.l2 (rw e at c.requires.0) c.in-EqualEach.is)

pub returns-in-EqualOrdered : goal.returns-in-EqualOrdered
returns-in-EqualOrdered g c =
    let a = c.args in
    let t = g.T.Element in
    let e = g.met.T.Block.sized ∙ t.counted in
    rw e (rw e at c.equal_ordered.ensures ∙ ordered_is (at_width t.words a.k) t.words refl (t.numbers a.x1.now) a.l1 (t.numbers a.x2.now) a.l2 (rw e at c.requires.0) c.in-EqualOrdered.is)
