-- Bit j of `left` says that the first i elements of x1 stand in x2 from j on.
use mathlib.Core.Path.{◌≡◌}
use Rattle.bits.specs.Bits.{number_of}
use Rattle.unit.proofs.Modes.{standing_to}
use Rattle.modes.proofs.words.equal_ordered.Given as goal

abbrev pub invariant-loop-i : goal.invariant-loop-i
invariant-loop-i l = l.left ≡ number_of 8 (standing_to 8 l.x1 l.l1 l.x2 l.l2 l.i)
