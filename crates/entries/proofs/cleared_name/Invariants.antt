-- The first i bytes are cleared.
use Rattle.std.proofs.Common.{◌≡◌, ℕ, ◌<◌, length, get_or}
use Rattle.entries.proofs.cleared_name.Given as goal
use mathlib.Core.Bool.{cond}
use lib.Dec.{ltb}

abbrev pub invariant-loop-i : goal.invariant-loop-i
invariant-loop-i l = (length l.cleared ≡ 32) × ((k : ℕ) → k < l.i → get_or l.cleared k 0 ≡ cond (ltb k l.length) (get_or l.name k 0) 0)
