-- `modes::bytes::implicit` meets its contract: the first zero element is where an operand ends.
-- Assumes nothing.
use Rattle.std.proofs.Common.{refl, rules}
use Rattle.unit.specs.Operand.{in_bytes}
use Rattle.modes.specs.Widths.{at_width}
use Rattle.unit.proofs.Unit.{implicit_is}
use Rattle.modes.proofs.bytes.implicit.Goals as goal

pub returns : goal.returns
returns c =
    let a = c.args in
    implicit_is (at_width in_bytes a.k) in_bytes a.operand1 a.operand2 a.operand1 _ a.operand2 _ c.implicit.result refl refl (search rules) refl refl (search rules) refl c.implicit.ensures
