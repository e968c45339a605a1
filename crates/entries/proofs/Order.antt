-- The order of entries: it is strict and goes on from entry to entry, and only entries of one
-- minute, name and number stand at one place in it. First by one order, then by another, is shown
-- to be such an order once, and used twice. Assumes nothing.
use Prim.Native.Nat.{ℕ, zero, suc}
use mathlib.Core.Path.{◌≡◌, refl, sym, ap, ◌∙◌}
use mathlib.Core.Bool.{Bool, true, false}
use native.Mathlib.Omega.{arith}
use lib.Dec.{ltb}
use lib.IntN.{ℤ, pos, negsuc, neg_ℤ}
use lib.Signed.{lt_z, le_z}
use borrow.Author.Tests.{lt-ltb, le-ltb, lt-leb, ltb-true, ltb-false}
use Rattle.bits.proofs.Below.{by_test}
use Rattle.unit.specs.Operand.{in_bytes}
use Rattle.orders.specs.Orders.{order}
use Rattle.orders.proofs.Order.{is_order, unsigned_transitive, unsigned_zero_equal}
use Rattle.entries.specs.declared.Entry.{Entry}
use Rattle.entries.specs.Entries.{precedes, decided, name_of, unsigned, IsTotal}

-- false is not true
pub clash {ℓ} : {X : Type ℓ} {b : Bool} → b ≡ true → b ≡ false → X
clash p q = absurd (let z : ◌≡◌ {A = ℕ} 0 1 = cc in omega arith)

-- A strict order in which several may stand at one place: of two at most one comes before the
-- other, and what does not come before goes on.
pub record Weak {A : Type 0} (R : A → A → Bool) : Type 0 where
  pub one_way : (x y : A) → R x y ≡ true → R y x ≡ false
  pub goes_on : (x y z : A) → R y x ≡ false → R z y ≡ false → R z x ≡ false

-- first by R, then by S
abbrev pub Then : {A : Type 0} → (A → A → Bool) → (A → A → Bool) → A → A → Bool
Then R S x y = decided (R x y) (R y x) (S x y)

module _ {A : Type 0} (R S : A → A → Bool) (r : Weak R) where
  -- where the first does not come before, it does not by R
  not_first : (x y : A) → Then R S x y ≡ false → R x y ≡ false
  not_first x y h = by_test (R x y) (λ e. clash (rw e) h) (λ e. e)

  level : (x y : A) → R x y ≡ false → R y x ≡ false → Then R S x y ≡ S x y
  level x y e f = rw (e, f)

  then_one_way : Weak S → (x y : A) → Then R S x y ≡ true → Then R S y x ≡ false
  then_one_way s x y h =
      by_test (R x y) (λ e. rw (r.one_way x y e, e))
      (λ e. by_test (R y x)
      (λ f. clash h (rw (e, f)))
      (λ f. rw (f, e) (s.one_way x y (sym (level x y e f) ∙ h))))

  then_goes_on : Weak S → (x y z : A) → Then R S y x ≡ false → Then R S z y ≡ false → Then R S z x ≡ false
  then_goes_on s x y z h k =
      let a : R y x ≡ false = not_first y x h in
      let b : R z y ≡ false = not_first z y k in
      let c : R z x ≡ false = r.goes_on x y z a b in
      by_test (R x z)
      (λ e. rw (c, e))
      (λ e. let xy : R x y ≡ false = r.goes_on y z x b e in
      let yz : R y z ≡ false = r.goes_on z x y e a in
      rw (c, e) (s.goes_on x y z (sym (level y x a xy) ∙ h) (sym (level z y b yz) ∙ k)))

  pub then_weak : Weak S → Weak (Then R S)
  then_weak s = record { one_way = then_one_way s; goes_on = then_goes_on s }

  -- neither way: neither by R, nor by S
  pub then_tied : (x y : A) → Then R S x y ≡ false → Then R S y x ≡ false → (R x y ≡ false) × (R y x ≡ false) × (S x y ≡ false) × (S y x ≡ false)
  then_tied x y h k =
      let e : R x y ≡ false = not_first x y h in
      let f : R y x ≡ false = not_first y x k in
      (e, f, sym (level x y e f) ∙ h, sym (level y x f e) ∙ k)

-- ---- numbers

pub number_weak : {A : Type 0} (f : A → ℕ) → Weak (λ (x y : A). ltb (f x) (f y))
number_weak f = record {
  one_way = λ x y h. le-ltb (f y) (f x) (omega (arith, ltb-true (f x) (f y) h));
  goes_on = λ x y z h k. le-ltb (f z) (f x) (omega (arith, ltb-false (f y) (f x) h, ltb-false (f z) (f y) k));
}

pub number_tied : (a b : ℕ) → ltb a b ≡ false → ltb b a ≡ false → a ≡ b
number_tied a b h k = omega (arith, ltb-false a b h, ltb-false b a k)

-- ---- names

negated_less : (o : ℤ) → lt_z (neg_ℤ o) (pos 0) ≡ lt_z (pos 0) o
negated_less (pos zero) = refl
negated_less (pos (suc n)) = sym (lt-ltb 0 (suc n) (omega arith))
negated_less (negsuc n) = le-ltb (suc n) 0 (omega arith)

not_less : (o : ℤ) → lt_z o (pos 0) ≡ false → le_z (neg_ℤ o) (pos 0) ≡ true
not_less (pos zero) h = refl
not_less (pos (suc n)) h = refl
not_less (negsuc n) h = clash refl h

up_to_not_less : (o : ℤ) → le_z (neg_ℤ o) (pos 0) ≡ true → lt_z o (pos 0) ≡ false
up_to_not_less (pos n) h = le-ltb n 0 (omega arith)
up_to_not_less (negsuc n) h = clash h (lt-leb (suc n) 0 (omega arith))

less_not_more : (o : ℤ) → lt_z o (pos 0) ≡ true → lt_z (pos 0) o ≡ false
less_not_more (pos n) h = absurd (omega (arith, ltb-true n 0 h))
less_not_more (negsuc n) h = refl

zero_between : (o : ℤ) → lt_z o (pos 0) ≡ false → lt_z (pos 0) o ≡ false → o ≡ pos 0
zero_between (pos n) h k = ap pos (omega (arith, ltb-false 0 n k))
zero_between (negsuc n) h k = clash refl h

abbrev ord : Entry → Entry → ℤ
ord a b = order in_bytes unsigned (name_of a) (name_of b)

abbrev by_name : Entry → Entry → Bool
by_name a b = lt_z (ord a b) (pos 0)

turned : (a b : Entry) → ord b a ≡ neg_ℤ (ord a b)
turned a b = (is_order in_bytes unsigned).antisymmetric (name_of a) (name_of b)

name_other : (a b : Entry) → by_name b a ≡ lt_z (pos 0) (ord a b)
name_other a b = ap (λ (o : ℤ). lt_z o (pos 0)) (turned a b) ∙ negated_less (ord a b)

up_to : (a b : Entry) → by_name b a ≡ false → le_z (ord a b) (pos 0) ≡ true
up_to a b h = ap (λ (o : ℤ). le_z o (pos 0)) (turned b a) ∙ not_less (ord b a) h

not_under : (a b : Entry) → le_z (ord a b) (pos 0) ≡ true → by_name b a ≡ false
not_under a b h = up_to_not_less (ord b a) (ap (λ (o : ℤ). le_z o (pos 0)) (sym (turned b a)) ∙ h)

name_weak : Weak by_name
name_weak = record {
  one_way = λ a b h. name_other a b ∙ less_not_more (ord a b) h;
  goes_on = λ a b c h k. not_under a c (unsigned_transitive in_bytes (name_of a) (name_of b) (name_of c) (up_to a b h) (up_to b c k));
}

-- ---- entries

abbrev by_minute : Entry → Entry → Bool
by_minute a b = ltb a.minute b.minute

abbrev by_number : Entry → Entry → Bool
by_number a b = ltb a.number b.number

abbrev lexical : Entry → Entry → Bool
lexical = Then by_minute (Then by_name by_number)

precedes_by : (a b : Entry) → precedes a b ≡ lexical a b
unfolding precedes
precedes_by a b = ap (λ (t : Bool). decided (by_minute a b) (by_minute b a) (decided (by_name a b) t (by_number a b))) (sym (name_other a b))

lexical_weak : Weak lexical
lexical_weak =
    then_weak by_minute (Then by_name by_number) (number_weak (λ e. e.minute)) (then_weak by_name by_number name_weak (number_weak (λ e. e.number)))

pub precedes_weak : Weak precedes
precedes_weak = record {
  one_way = λ a b h. precedes_by b a ∙ lexical_weak.one_way a b (sym (precedes_by a b) ∙ h);
  goes_on = λ a b c h k. precedes_by c a ∙ lexical_weak.goes_on a b c (sym (precedes_by b a) ∙ h) (sym (precedes_by c b) ∙ k);
}

-- neither comes first: the minutes, the names and the numbers are the same
pub tied : (a b : Entry) → precedes a b ≡ false → precedes b a ≡ false → (a.minute ≡ b.minute) × (name_of a ≡ name_of b) × (a.number ≡ b.number)
tied a b h k =
    let t = then_tied by_minute (Then by_name by_number) (number_weak (λ e. e.minute)) a b (sym (precedes_by a b) ∙ h) (sym (precedes_by b a) ∙ k) in
    let u = then_tied by_name by_number name_weak a b t.2 t.3 in (
      number_tied a.minute b.minute t.0 t.1,
      unsigned_zero_equal in_bytes (name_of a) (name_of b) (zero_between (ord a b) u.0 (sym (name_other a b) ∙ u.1)),
      number_tied a.number b.number u.2 u.3,
    )

pub is_total : IsTotal
is_total = record {
  irreflexive = λ a. by_test (precedes a a) (λ t. precedes_weak.one_way a a t) (λ t. t);
  transitive = λ a b c h k. by_test (precedes a c) (λ t. t) (λ t. clash k (precedes_weak.goes_on c a b t (precedes_weak.one_way a b h)));
  total = tied;
}
