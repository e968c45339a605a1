-- A list into which an element is put. Assumes nothing.
use Prim.Native.Nat.{ℕ, ◌+◌, ◌-◌, ◌≤◌, ◌<◌}
use mathlib.Core.Path.{◌≡◌, sym, ap, ◌∙◌}
use mathlib.Core.List.{List, [], ◌∷◌, ◌++◌, append_assoc}
use native.Mathlib.Omega.{arith}
use native.Mathlib.Numerals.{add-one}
use lib.ListN.{length, get_or, take, drop, set, length-append, length-take, length-drop}
use lib.Seq.{paste, take-suc, take_at, set_at, length-take-le}
use Rattle.std.proofs.lemmas.Slice.{between_is}

module _ {A : Type 0} where
  pub take_more : (l : List A) (i : ℕ) (d : A) → i < length l → take (i + 1) l ≡ take i l ++ get_or l i d ∷ []
  take_more l i d h = rw (add-one) (take-suc l i d h)

  -- the elements from p up to n move up by one, and v is stored at p
  pub put_in : (l : List A) (p n : ℕ) (v : A) → p ≤ n → n < length l
      → take (n + 1) (set (paste l (p + 1) (drop p l) (n - p)) p v) ≡ take p l ++ v ∷ drop p (take n l)
  put_in l p n v h k =
      let middle = take (n - p) (drop p l) in
      let after = drop (p + 1 + (n - p)) l in
      let long : length (take p l ++ v ∷ middle) ≡ n + 1 =
      omega (arith, length-append (take p l) (v ∷ middle), length-take p l, length-take (n - p) (drop p l), length-drop p l) in
      ap (λ (m : List A). take (n + 1) (set (m ++ middle ++ after) p v)) (take_more l p v (omega arith))
      ∙ simp append_assoc (rw (set_at (take p l) (get_or l p v) (middle ++ after) v p (length-take-le p l (omega arith)))
      (ap (take (n + 1)) (sym (append_assoc (take p l) (v ∷ middle) after)) ∙ take_at (take p l ++ v ∷ middle) after (n + 1) long
      ∙ ap (λ (m : List A). take p l ++ v ∷ m) (between_is l p n)))
