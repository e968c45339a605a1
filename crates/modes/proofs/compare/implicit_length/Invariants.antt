-- None of the first i elements is zero.
use Rattle.std.proofs.Common.{◌≡◌, ℕ, ◌<◌, get_or}
use Rattle.modes.proofs.compare.implicit_length.Given as goal

abbrev pub invariant-loop-i : goal.invariant-loop-i
invariant-loop-i g l = (k : ℕ) → k < l.i → get_or (g.T.Element.numbers l.x) k 0 ≡ 0 → ⊥
