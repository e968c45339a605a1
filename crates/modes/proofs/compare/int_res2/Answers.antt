-- `modes::compare::int_res2` meets its contract: IntRes1 with the polarity's bits negated is
-- IntRes2. Assumes nothing.
use Rattle.std.proofs.Common.{◌∙◌, ap, refl}
use Rattle.modes.specs.Widths.{at_width}
use Rattle.unit.specs.declared.Compared.{Compared}
use Rattle.unit.proofs.Unit.{compared_is}
use Rattle.modes.proofs.compare.int_res2.Goals as goal

pub returns : goal.returns
returns g c =
    let a = c.args in
    let t = g.T.Element in
    let e = g.met.T.Block.sized ∙ t.counted in
    ap (λ (c : Compared). c.bits) (compared_is (at_width t.words a.k) t.words (t.numbers a.x1.now) a.l1 (t.numbers a.x2.now) a.l2 c.aggregated.result c.negated.result refl (rw e at c.aggregated.ensures) c.negated.ensures)
