-- `pcmpstr::pcmpestri_usize` meets its contract, the definition of PCMPESTRI at lengths that are
-- not negative: refused above 127, else what the parts say of the operands, put together. Assumes
-- nothing.
use mathlib.Core.Path.{refl, ◌∙◌}
use lib.IntN.{pos}
use Rattle.unit.specs.Control.{control_of}
use Rattle.unit.specs.Output.{index_answer, refused_index}
use Rattle.unit.specs.Calls.{explicit, PCMPESTRI}
use Rattle.unit.proofs.Unit.{refused, index_called}
use native.Mathlib.Omega.{arith}
use Rattle.pcmpstr.proofs.pcmpestri_usize.Goals as goal

pub returns-then-control-gt-GREATEST_CONTROL : goal.returns-then-control-gt-GREATEST_CONTROL
unfolding PCMPESTRI
returns-then-control-gt-GREATEST_CONTROL c =
    let a = c.args in
    c.refused.ensures ∙ refused (index_answer (explicit a.operand1 (pos a.length1) a.operand2 (pos a.length2) (control_of a.control))) refused_index a.control (omega arith)

pub returns : goal.returns
unfolding PCMPESTRI
returns c =
    let a = c.args in
    let k = c.decode-k in
    index_called (explicit a.operand1 (pos a.length1) a.operand2 (pos a.length2)) a.control k.result c.explicit_usize.result refl (omega arith) k.ensures c.explicit_usize.ensures c.answer.result c.answer.ensures
