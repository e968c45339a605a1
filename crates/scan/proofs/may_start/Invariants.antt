-- Where nothing is found, the letters stand at no place passed.
use Prim.Native.Nat.{ℕ, ◌<◌}
use mathlib.Core.Path.{◌≡◌}
use mathlib.Core.Bool.{false}
use Rattle.unit.specs.Operand.{elements}
use Rattle.scan.specs.Letters.{starts_at}
use Rattle.scan.proofs.may_start.Given as goal

abbrev pub invariant-loop-j : goal.invariant-loop-j
invariant-loop-j g l =
    l.found ≡ false → (k : ℕ) → k < l.j → starts_at (g.T.Element.numbers l.part) (elements g.T.Element.words l.operand1) l.rows k ≡ false
