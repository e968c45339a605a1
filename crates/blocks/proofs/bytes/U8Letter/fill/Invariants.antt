-- The first i bytes of the part are stored.
use mathlib.Core.Path.{◌≡◌}
use Rattle.unit.specs.Operand.{in_bytes}
use Rattle.blocks.specs.Blocks.{operand_byte, stores}
use Rattle.blocks.proofs.bytes.U8Letter.fill.Given as goal

abbrev pub invariant-loop-i : goal.invariant-loop-i
invariant-loop-i l = l.operand ≡ stores (operand_byte in_bytes l.part) l.i l.initial.operand
