-- `pcmpstr::pcmpistri` meets its contract, the definition of PCMPISTRI: refused above 127, else
-- what the parts say of the operands, put together. Assumes nothing.
use mathlib.Core.Path.{refl, ◌∙◌}
use Rattle.unit.specs.Control.{control_of}
use Rattle.unit.specs.Output.{index_answer, refused_index}
use Rattle.unit.specs.Calls.{implicit, PCMPISTRI}
use Rattle.unit.proofs.Unit.{refused, index_called}
use native.Mathlib.Omega.{arith}
use Rattle.pcmpstr.proofs.pcmpistri.Goals as goal

pub returns-then-control-gt-GREATEST_CONTROL : goal.returns-then-control-gt-GREATEST_CONTROL
unfolding PCMPISTRI
returns-then-control-gt-GREATEST_CONTROL c =
    let a = c.args in
    c.refused.ensures ∙ refused (index_answer (implicit a.operand1 a.operand2 (control_of a.control))) refused_index a.control (omega arith)

pub returns : goal.returns
unfolding PCMPISTRI
returns c =
    let a = c.args in
    let k = c.decode-k in
    index_called (implicit a.operand1 a.operand2) a.control k.result c.implicit.result refl (omega arith) k.ensures c.implicit.ensures c.answer.result c.answer.ensures
