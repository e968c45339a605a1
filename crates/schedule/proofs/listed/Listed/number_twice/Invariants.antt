-- No number before i has stood before.
use mathlib.Core.Path.{◌≡◌}
use mathlib.Core.Bool.{false}
use lib.ListN.{length}
use Rattle.bits.specs.Bits.{any_below}
use Rattle.schedule.proofs.Twice.{seen_in}
use Rattle.schedule.proofs.listed.Listed.number_twice.Given as goal

abbrev pub invariant-loop-i : goal.invariant-loop-i
invariant-loop-i l = (length l.numbers ≡ 200) × (false ≡ any_below l.i (seen_in l.numbers))
