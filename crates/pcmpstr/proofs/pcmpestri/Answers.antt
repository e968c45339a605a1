-- `pcmpstr::pcmpestri` meets its contract, the definition of PCMPESTRI: refused above 127, else
-- what the parts say of the operands, put together. Assumes nothing.
use mathlib.Core.Path.{refl, ◌∙◌}
use Rattle.unit.specs.Control.{control_of}
use Rattle.unit.specs.Output.{index_answer, refused_index}
use Rattle.unit.specs.Calls.{explicit, PCMPESTRI}
use Rattle.unit.proofs.Unit.{refused, index_called}
use mir.Syntax.{w64}
use mir.ValLaws.{to_z-of_z}
use native.Mathlib.Omega.{arith}
use Rattle.pcmpstr.proofs.pcmpestri.Goals as goal

pub returns-then-control-gt-GREATEST_CONTROL : goal.returns-then-control-gt-GREATEST_CONTROL
unfolding PCMPESTRI
returns-then-control-gt-GREATEST_CONTROL c =
    let a = c.args in
    c.refused.ensures ∙ refused (index_answer (explicit a.operand1 a.length1 a.operand2 a.length2 (control_of a.control))) refused_index a.control (omega arith)

pub returns : goal.returns
unfolding PCMPESTRI
returns c =
    let a = c.args in
    let k = c.decode-k in
    index_called (explicit a.operand1 a.length1 a.operand2 a.length2) a.control k.result c.explicit.result refl (omega arith) k.ensures (rw (to_z-of_z w64 a.length1 c.ranges.length1, to_z-of_z w64 a.length2 c.ranges.length2) at c.explicit.ensures) c.answer.result c.answer.ensures
