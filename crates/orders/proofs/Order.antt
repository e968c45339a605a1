-- The order of two texts is an order: exchanged texts exchange -1 and 1, what is not above goes on
-- from text to text, and 0 stands for equal texts alone. The texts' elements are those of a width,
-- so that two of them stand for one number only where they are equal. Assumes nothing.
use Prim.Native.Nat.{ℕ, zero, suc, ◌+◌, ◌^◌, ◌≤◌, ◌<◌, min}
use mathlib.Core.Path.{◌≡◌, refl, sym, ap, ◌∙◌}
use mathlib.Core.Bool.{Bool, true, false, cond}
use mathlib.Core.List.{List, [], ◌∷◌}
use native.Mathlib.Omega.{arith}
use Rattle.std.proofs.lemmas.Int.{ints}
use Rattle.std.proofs.lemmas.Bool.Decides.{nat_tests}
use lib.Dec.{eqb, ltb}
use lib.ListN.{length, get_or}
use lib.IntN.{ℤ, pos, negsuc, neg_ℤ}
use lib.Signed.{lt_z, le_z, mag}
use borrow.Author.Tests.{lt-ltb, le-ltb, eq-eqb, ne_eqb, eqb-true, eqb-false}
use Rattle.bits.specs.Bits.{least_below}
use Rattle.bits.proofs.Below.{by_test}
use Rattle.unit.specs.Operand.{bits_of, value_of}
use Rattle.orders.specs.Orders.{difference, sign, order_at, order, IsOrder}

-- ---- numbers

-- two tests on numbers
less_not : (a b : ℤ) → lt_z a b ≡ true → lt_z b a ≡ false
less_not a b h = grind (arith, ints, nat_tests)

less_trans : (a b c : ℤ) → lt_z a b ≡ true → lt_z b c ≡ true → lt_z a c ≡ true
less_trans a b c h k = grind (arith, ints, nat_tests)

-- neither is less
neither : (a b : ℤ) → lt_z a b ≡ false → lt_z b a ≡ false → a ≡ b
neither a b h k = omega (arith, ints)

less_irrefl : (a : ℤ) → lt_z a a ≡ false
less_irrefl a = grind (arith, ints, nat_tests)

sign_swap : (a b : ℤ) → sign b a ≡ neg_ℤ (sign a b)
sign_swap a b = grind (arith, ints, nat_tests)

-- not above, and not equal: less
less_of : (a b : ℤ) → le_z (sign a b) (pos 0) ≡ true → (a ≡ b → ⊥) → lt_z a b ≡ true
less_of a b h d = grind (arith, ints, nat_tests)

-- ---- an element more

-- `value` is what an element stands for, and the order is that of the numbers
module _ (value : ℕ → ℤ) where
  abbrev ord : List ℕ → List ℕ → ℤ
  ord x y = order_at value x y (difference x y)

  both_empty : ord [] [] ≡ pos 0
  unfolding difference least_below
  both_empty = refl

  first_empty : (y : ℕ) (ys : List ℕ) → ord [] (y ∷ ys) ≡ negsuc 0
  unfolding difference least_below
  first_empty y ys = let e : min 0 (suc (length ys)) ≡ 0 = omega arith in rw (e, lt-ltb 0 (suc (length ys)) (omega arith))

  second_empty : (x : ℕ) (xs : List ℕ) → ord (x ∷ xs) [] ≡ pos 1
  unfolding difference least_below
  second_empty x xs =
      let e : min (suc (length xs)) 0 ≡ 0 = omega arith in
      rw (e, le-ltb (suc (length xs)) 0 (omega arith), lt-ltb 0 (suc (length xs)) (omega arith))

  next_difference : (x y : ℕ) (xs ys : List ℕ) → difference (x ∷ xs) (y ∷ ys) ≡ cond (eqb x y) (suc (difference xs ys)) 0
  unfolding difference least_below
  next_difference x y xs ys =
      let e : min (suc (length xs)) (suc (length ys)) ≡ suc (min (length xs) (length ys)) = omega arith in
      rw e (by_test (eqb x y) (λ t. rw t) (λ t. rw t))

  below_suc : (n m : ℕ) → ltb (suc n) (suc m) ≡ ltb n m
  below_suc n m = grind (arith, nat_tests)

  further : (x y : ℕ) (xs ys : List ℕ) (k : ℕ) → order_at value (x ∷ xs) (y ∷ ys) (suc k) ≡ order_at value xs ys k
  further x y xs ys k =
      let e : min (suc (length xs)) (suc (length ys)) ≡ suc (min (length xs) (length ys)) = omega arith in
      rw (e, below_suc k (min (length xs) (length ys)), below_suc (length xs) (length ys), below_suc (length ys) (length xs))

  at_once : (x y : ℕ) (xs ys : List ℕ) → order_at value (x ∷ xs) (y ∷ ys) 0 ≡ sign (value x) (value y)
  at_once x y xs ys = rw (lt-ltb 0 (min (suc (length xs)) (suc (length ys))) (omega arith))

  -- equal elements hand the order on, others decide it
  ord_same : (x y : ℕ) (xs ys : List ℕ) → eqb x y ≡ true → ord (x ∷ xs) (y ∷ ys) ≡ ord xs ys
  ord_same x y xs ys t =
      ap (λ (k : ℕ). order_at value (x ∷ xs) (y ∷ ys) k) (next_difference x y xs ys ∙ rw t) ∙ further x y xs ys (difference xs ys)

  ord_other : (x y : ℕ) (xs ys : List ℕ) → eqb x y ≡ false → ord (x ∷ xs) (y ∷ ys) ≡ sign (value x) (value y)
  ord_other x y xs ys t =
      ap (λ (k : ℕ). order_at value (x ∷ xs) (y ∷ ys) k) (next_difference x y xs ys ∙ rw t) ∙ at_once x y xs ys

  -- ---- the laws

  exchanged : (x y : List ℕ) → ord y x ≡ neg_ℤ (ord x y)
  exchanged [] [] = rw both_empty
  exchanged [] (y ∷ ys) = rw (first_empty y ys) (second_empty y ys)
  exchanged (x ∷ xs) [] = rw (second_empty x xs) (first_empty x xs)
  exchanged (x ∷ xs) (y ∷ ys) =
      by_test (eqb x y)
      (λ t. ord_same y x ys xs (eq-eqb y x (sym (eqb-true x y t))) ∙ exchanged xs ys ∙ ap neg_ℤ (sym (ord_same x y xs ys t)))
      (λ t. ord_other y x ys xs (ne_eqb y x (λ e. eqb-false x y t (sym e))) ∙ sign_swap (value x) (value y) ∙ ap neg_ℤ (sym (ord_other x y xs ys t)))

  itself : (x : List ℕ) → ord x x ≡ pos 0
  itself [] = both_empty
  itself (x ∷ xs) = ord_same x x xs xs (eq-eqb x x refl) ∙ itself xs

  -- Elements below `size` stand for one number only where they are equal.
  module _ (size : ℕ) (apart : (x y : ℕ) → x < size → y < size → value x ≡ value y → x ≡ y) where
    abbrev Sized : List ℕ → Type 0
    Sized x = (i : ℕ) → i < length x → get_or x i 0 < size

    head : (x : ℕ) (xs : List ℕ) → Sized (x ∷ xs) → x < size
    head x xs h = h 0 (omega arith)

    tail : (x : ℕ) (xs : List ℕ) → Sized (x ∷ xs) → Sized xs
    tail x xs h i g = h (suc i) (omega arith)

    zero_equal : (x y : List ℕ) → Sized x → Sized y → ord x y ≡ pos 0 → x ≡ y
    zero_equal [] [] h k e = refl
    zero_equal [] (y ∷ ys) h k e = absurd (let f : negsuc 0 ≡ pos 0 = sym (first_empty y ys) ∙ e in cc)
    zero_equal (x ∷ xs) [] h k e = absurd (let f : pos 1 ≡ pos 0 = sym (second_empty x xs) ∙ e in cc)
    zero_equal (x ∷ xs) (y ∷ ys) h k e =
        by_test (eqb x y)
        (λ t. let p : x ≡ y = eqb-true x y t in
        let q : xs ≡ ys = zero_equal xs ys (tail x xs h) (tail y ys k) (sym (ord_same x y xs ys t) ∙ e) in
        λ i. p i ∷ q i)
        (λ t. let s : sign (value x) (value y) ≡ pos 0 = sym (ord_other x y xs ys t) ∙ e in
        let l : lt_z (value x) (value y) ≡ true = less_of (value x) (value y) (ap (λ (z : ℤ). le_z z (pos 0)) s) (λ f. eqb-false x y t (apart x y (head x xs h) (head y ys k) f)) in
        absurd (let f : negsuc 0 ≡ pos 0 = rw l at s in cc))

    -- not above
    abbrev UpTo : List ℕ → List ℕ → Type 0
    UpTo x y = le_z (ord x y) (pos 0) ≡ true

    -- other elements decide
    decided : (x y : ℕ) (xs ys : List ℕ) → Sized (x ∷ xs) → Sized (y ∷ ys) → eqb x y ≡ false → UpTo (x ∷ xs) (y ∷ ys) → lt_z (value x) (value y) ≡ true
    decided x y xs ys h k t u =
        less_of (value x) (value y) (rw (ord_other x y xs ys t) at u) (λ f. eqb-false x y t (apart x y (head x xs h) (head y ys k) f))

    less_up_to : (x y : ℕ) (xs ys : List ℕ) → lt_z (value x) (value y) ≡ true → UpTo (x ∷ xs) (y ∷ ys)
    less_up_to x y xs ys l =
        by_test (eqb x y)
        (λ t. absurd (let e : x ≡ y = eqb-true x y t in
        let f : lt_z (value x) (value y) ≡ false = rw e (less_irrefl (value y)) in
        cc))
        (λ t. rw (ord_other x y xs ys t, l))

    handed_on : (x y z : List ℕ) → Sized x → Sized y → Sized z → UpTo x y → UpTo y z → UpTo x z
    handed_on [] y [] hx hy hz u v = rw both_empty
    handed_on [] y (z ∷ zs) hx hy hz u v = rw (first_empty z zs)
    handed_on (x ∷ xs) [] z hx hy hz u v =
        absurd (let f : false ≡ true = rw (second_empty x xs) at u in cc)
    handed_on (x ∷ xs) (y ∷ ys) [] hx hy hz u v =
        absurd (let f : false ≡ true = rw (second_empty y ys) at v in cc)
    handed_on (x ∷ xs) (y ∷ ys) (z ∷ zs) hx hy hz u v =
        by_test (eqb x y)
        (λ s. let p : x ≡ y = eqb-true x y s in
        by_test (eqb y z)
        (λ t. let q : eqb x z ≡ true = rw p t in
        rw (ord_same x z xs zs q)
        (handed_on xs ys zs (tail x xs hx) (tail y ys hy) (tail z zs hz) (rw (ord_same x y xs ys s) at u) (rw (ord_same y z ys zs t) at v)))
        (λ t. less_up_to x z xs zs (rw p (decided y z ys zs hy hz t v))))
        (λ s. let l : lt_z (value x) (value y) ≡ true = decided x y xs ys hx hy s u in
        by_test (eqb y z)
        (λ t. let q : y ≡ z = eqb-true y z t in less_up_to x z xs zs (rw q at l))
        (λ t. less_up_to x z xs zs (less_trans (value x) (value y) (value z) l (decided y z ys zs hy hz t v))))

-- ---- the elements of a width

values_apart : (words signed : Bool) (x y : ℕ) → x < 2 ^ bits_of words → y < 2 ^ bits_of words → value_of words signed x ≡ value_of words signed y → x ≡ y
values_apart true true x y h k e = grind (arith, ints, nat_tests)
values_apart false true x y h k e = grind (arith, ints, nat_tests)
values_apart words false x y h k e = ap mag e

-- ---- the theorem

pub is_order : (words signed : Bool) → IsOrder words signed
unfolding order
is_order words signed =
    let value : ℕ → ℤ = value_of words signed in
    let size : ℕ = 2 ^ bits_of words in
    record { antisymmetric = exchanged value; transitive = handed_on value size (values_apart words signed); equal_gives_zero = itself value; zero_only_for_equal = zero_equal value size (values_apart words signed) }

-- ---- the unsigned order, of elements of any size

-- a number above each element
abbrev bound : List ℕ → ℕ
bound [] = 0
bound (x ∷ xs) = suc (x + bound xs)

below_bound : (x : List ℕ) (i : ℕ) → i < length x → get_or x i 0 < bound x
below_bound [] i h = absurd (omega arith)
below_bound (x ∷ xs) zero h = omega arith
below_bound (x ∷ xs) (suc i) h = omega (arith, below_bound xs i (omega arith))

pub unsigned_transitive : (words : Bool) (x y z : List ℕ)
    → le_z (order words false x y) (pos 0) ≡ true → le_z (order words false y z) (pos 0) ≡ true → le_z (order words false x z) (pos 0) ≡ true
unfolding order
unsigned_transitive words x y z =
    handed_on (value_of words false) (bound x + (bound y + bound z)) (λ a b h k e. ap mag e) x y z
    (λ i h. omega (arith, below_bound x i h)) (λ i h. omega (arith, below_bound y i h)) (λ i h. omega (arith, below_bound z i h))

pub unsigned_zero_equal : (words : Bool) (x y : List ℕ) → order words false x y ≡ pos 0 → x ≡ y
unfolding order
unsigned_zero_equal words x y =
    zero_equal (value_of words false) (bound x + bound y) (λ a b h k e. ap mag e) x y
    (λ i h. omega (arith, below_bound x i h)) (λ i h. omega (arith, below_bound y i h))

-- ---- the order from a place, for the code

module _ (value : ℕ → ℤ) (x y : List ℕ) (k : ℕ) where
  pub at_elements : k < min (length x) (length y) → order_at value x y k ≡ sign (value (get_or x k 0)) (value (get_or y k 0))
  at_elements h = rw (lt-ltb k (min (length x) (length y)) h)

  pub at_end : min (length x) (length y) ≤ k → order_at value x y k ≡ sign (pos (length x)) (pos (length y))
  at_end h = rw (le-ltb k (min (length x) (length y)) h)
