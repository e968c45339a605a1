-- `pcmpstr::pcmpistrm` meets its contract, the definition of PCMPISTRM: refused above 127, else
-- what the parts say of the operands, put together. Assumes nothing.
use mathlib.Core.Path.{refl, ◌∙◌}
use Rattle.unit.specs.Control.{control_of}
use Rattle.unit.specs.Output.{mask_answer, refused_mask}
use Rattle.unit.specs.Calls.{implicit, PCMPISTRM}
use Rattle.unit.proofs.Unit.{refused, mask_called}
use native.Mathlib.Omega.{arith}
use Rattle.pcmpstr.proofs.pcmpistrm.Goals as goal

pub returns-then-control-gt-GREATEST_CONTROL : goal.returns-then-control-gt-GREATEST_CONTROL
unfolding PCMPISTRM
returns-then-control-gt-GREATEST_CONTROL c =
    let a = c.args in
    c.refused.ensures ∙ refused (mask_answer (implicit a.operand1 a.operand2 (control_of a.control))) refused_mask a.control (omega arith)

pub returns : goal.returns
unfolding PCMPISTRM
returns c =
    let a = c.args in
    let k = c.decode-k in
    mask_called (implicit a.operand1 a.operand2) a.control k.result c.implicit.result refl (omega arith) k.ensures c.implicit.ensures c.answer.result c.answer.ensures
