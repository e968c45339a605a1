-- The order of two texts as std tells it: that of the elements at the first difference, else that
-- of the lengths. Assumes nothing.
use Prim.Native.Nat.{ℕ, ◌≤◌, ◌<◌, min}
use mathlib.Core.Path.{◌≡◌, sym, ap, ◌∙◌}
use mathlib.Core.Bool.{Bool, true, false, cond}
use mathlib.Core.List.{List}
use native.Mathlib.Omega.{arith}
use lib.Dec.{ltb}
use lib.ListN.{length, get_or}
use lib.IntN.{ℤ, pos}
use lib.Signed.{lt_z}
use Rattle.std.proofs.lemmas.Bool.Decides.{nat_tests}
use Rattle.std.proofs.lemmas.Int.{ints}
use Rattle.std.specs.Ordering.{nat_cmp, int_cmp}
use Rattle.std.specs.declared.cmp.Ordering.{Ordering}
use Rattle.bits.proofs.Below.{by_test}
use Rattle.unit.specs.Operand.{value_of}
use Rattle.orders.specs.Orders.{difference, sign, order_at, order, ordering_of, told}
use Rattle.orders.proofs.Order.{at_elements, at_end}

of_values : (a b : ℤ) → int_cmp a b ≡ ordering_of (sign a b)
of_values a b = grind (arith, ints, nat_tests)

of_lengths : (n m : ℕ) → nat_cmp n m ≡ ordering_of (sign (pos n) (pos m))
of_lengths n m = grind (arith, nat_tests)

module _ (words signed : Bool) (x y : List ℕ) (k : ℕ) (d : k ≡ difference x y) where
  pub at_difference : k < min (length x) (length y) → (a b : ℤ) → a ≡ value_of words signed (get_or x k 0) → b ≡ value_of words signed (get_or y k 0) → int_cmp a b ≡ ordering_of (order words signed x y)
  unfolding order
  at_difference h a b e f =
      let value = value_of words signed in
      of_values a b ∙ (λ t. ordering_of (sign (e t) (f t))) ∙ ap ordering_of (sym (at_elements value x y k h) ∙ ap (order_at value x y) d)

  pub with_none : min (length x) (length y) ≤ k → (n m : ℕ) → n ≡ length x → m ≡ length y → nat_cmp n m ≡ ordering_of (order words signed x y)
  unfolding order
  with_none h n m e f =
      let value = value_of words signed in
      of_lengths n m ∙ (λ t. ordering_of (sign (pos (e t)) (pos (f t)))) ∙ ap ordering_of (sym (at_end value x y k h) ∙ ap (order_at value x y) d)

-- ---- an order told as -1, 0 or 1

told_sign : (a b : ℤ) → told (ordering_of (sign a b)) ≡ sign a b
told_sign a b = by_test (lt_z a b) (λ e. rw e) (λ e. rw e (by_test (lt_z b a) (λ f. rw f) (λ f. rw f)))

told_either : (t : Bool) (a b c d : ℤ) → told (ordering_of (cond t (sign a b) (sign c d))) ≡ cond t (sign a b) (sign c d)
told_either true a b c d = told_sign a b
told_either false a b c d = told_sign c d

pub told_order : (words signed : Bool) (x y : List ℕ) → told (ordering_of (order words signed x y)) ≡ order words signed x y
unfolding order
told_order words signed x y =
    let k = difference x y in
    told_either (ltb k (min (length x) (length y))) (value_of words signed (get_or x k 0)) (value_of words signed (get_or y k 0)) (pos (length x)) (pos (length y))
