-- What follows of the reading of elements as numbers (specs/Elements.antt). Assumes nothing.
use Prim.Native.Nat.{ℕ, ◌-◌}
use mathlib.Core.Path.{◌≡◌, ap, ◌∙◌}
use mathlib.Core.List.{List}
use lib.ListN.{take, drop}
use Rattle.unit.specs.Elements.{Reading}

module _ {A : Type 0} {numbers : List A → List ℕ} {number : A → ℕ} (r : Reading numbers number) where
  -- the numbers of a part
  pub part_is : (i e : ℕ) (xs : List A) → numbers (take (e - i) (drop i xs)) ≡ take (e - i) (drop i (numbers xs))
  part_is i e xs = r.front (e - i) (drop i xs) ∙ ap (take (e - i)) (r.rest i xs)
