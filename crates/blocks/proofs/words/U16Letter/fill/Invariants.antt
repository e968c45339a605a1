-- The bytes of the first i words are stored.
use Prim.Native.Nat.{◌*◌}
use mathlib.Core.Path.{◌≡◌}
use Rattle.unit.specs.Operand.{in_words}
use Rattle.blocks.specs.Blocks.{operand_byte, stores}
use Rattle.blocks.proofs.words.U16Letter.fill.Given as goal

abbrev pub invariant-loop-i : goal.invariant-loop-i
invariant-loop-i l = l.operand ≡ stores (operand_byte in_words l.part) (2 * l.i) l.initial.operand
