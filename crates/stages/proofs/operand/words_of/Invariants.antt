-- The first i words are filled.
use mathlib.Core.Path.{◌≡◌}
use lib.ListN.{length, take}
use Rattle.bits.specs.Bits.{tabulate}
use Rattle.unit.specs.Operand.{word_at}
use Rattle.stages.proofs.operand.words_of.Given as goal

abbrev pub invariant-loop-i : goal.invariant-loop-i
invariant-loop-i l = (length l.a ≡ 8) × (take l.i l.a ≡ tabulate l.i (word_at l.x))
