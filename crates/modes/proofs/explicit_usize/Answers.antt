-- `modes::explicit_usize` meets its contract: a length that is not negative is cut to b. Assumes
-- nothing.
use Rattle.std.proofs.Common.{◌∙◌, refl, sym, ap, min, pos, Bool}
use Rattle.unit.specs.Calls.{explicit}
use Rattle.unit.specs.Operand.{in_bytes}
use Rattle.unit.specs.Readings.{compared_of}
use Rattle.unit.proofs.Unit.{cut_explicit, explicit_is}
use Rattle.modes.specs.Widths.{at_width}
use Rattle.modes.proofs.explicit_usize.Goals as goal

pub returns : goal.returns
returns c =
    let a = c.args in
    explicit_is (at_width in_bytes a.k) in_bytes a.operand1 (pos a.length1) a.operand2 (pos a.length2) a.operand1 (min 16 a.length1) a.operand2 (min 16 a.length2) c.explicit_usize-2.result refl refl (cut_explicit 16 a.length1 _ refl) refl (cut_explicit 16 a.length2 _ refl) c.explicit_usize-2.ensures
    ∙ ap (λ (w : Bool). compared_of (explicit a.operand1 (pos a.length1) a.operand2 (pos a.length2) (at_width w a.k))) (sym c.if-k.false)
