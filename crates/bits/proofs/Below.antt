-- What a test tells; laws of `any_below`, `all_below`, `least_below`, and the size of `number_of`.
-- Assumes nothing.
use Prim.Native.Nat.{ℕ, zero, suc, ◌+◌, ◌-◌, ◌^◌, ◌≤◌, ◌<◌}
use mathlib.Core.Path.{◌≡◌, refl, ap}
use mathlib.Core.Bool.{Bool, true, false, cond, not, ◌&&◌, ◌||◌}
use native.Mathlib.Nat.{add-zero, add-suc, not-suc-le-zero, le_of_suc-le-suc}
use native.Mathlib.Omega.{arith}
use lib.Dec.{eqb, ltb}
use lib.Pow.{pow_pos}
use borrow.Author.Tests.{ne_eqb, ltb-true, ltb-false}
use Rattle.bits.specs.Bits.{any_below, all_below, least_below, number_of}

-- ---- tests

pub and_left : (a b : Bool) → a && b ≡ true → a ≡ true
and_left true b e = refl
and_left false b e = e

pub and_right : (a b : Bool) → a && b ≡ true → b ≡ true
and_right true b e = e
and_right false b e = absurd (let z : ◌≡◌ {A = ℕ} 0 1 = cc in omega arith)

-- a test, with what it came to
pub by_test {ℓ} : {X : Type ℓ} (t : Bool) → (t ≡ true → X) → (t ≡ false → X) → X
by_test true f g = f refl
by_test false f g = g refl

-- below, or not
pub by_order {ℓ} : {X : Type ℓ} (a b : ℕ) → (a < b → X) → (b ≤ a → X) → X
by_order a b f g = by_test (ltb a b) (λ e. f (ltb-true a b e)) (λ e. g (ltb-false a b e))

or_false : (x : Bool) → (x || false) ≡ x
or_false true = refl
or_false false = refl

pub or_true : (x : Bool) → (x || true) ≡ true
or_true true = refl
or_true false = refl

pub and_true : (x : Bool) → (x && true) ≡ x
and_true true = refl
and_true false = refl

pub and_false : (x : Bool) → (x && false) ≡ false
and_false true = refl
and_false false = refl

pub and_over_or : (a e v : Bool) → (a && v || (e && v)) ≡ (a || e) && v
and_over_or true true true = refl
and_over_or true true false = refl
and_over_or true false true = refl
and_over_or true false false = refl
and_over_or false e v = refl

-- ---- some number

any_past : (p : ℕ → Bool) (m d : ℕ) → ((i : ℕ) → m ≤ i → i < m + d → p i ≡ false) → any_below (m + d) p ≡ any_below m p
any_past p m zero h = rw add-zero
any_past p m (suc d) h =
    rw (add-suc, h (m + d) (omega arith) (omega arith), any_past p m d (λ i u v. h i u (omega arith)), or_false)

-- none from m on
pub any_cut : (n m : ℕ) (p : ℕ → Bool) → m ≤ n → ((i : ℕ) → m ≤ i → i < n → p i ≡ false) → any_below n p ≡ any_below m p
any_cut n m p h f =
    let q : m + (n - m) ≡ n = omega arith in
    rw q at (any_past p m (n - m) (λ i u v. f i u (omega arith)))

pub any_same : (n : ℕ) (p q : ℕ → Bool) → ((i : ℕ) → i < n → p i ≡ q i) → any_below n p ≡ any_below n q
any_same zero p q h = refl
any_same (suc n) p q h = rw (h n (omega arith), any_same n p q (λ i u. h i (omega arith)))

-- some number below m passes, so some below n does
any_more_from : (p : ℕ → Bool) (m d : ℕ) → any_below m p ≡ true → any_below (m + d) p ≡ true
any_more_from p m zero e = rw add-zero e
any_more_from p m (suc d) e = rw (add-suc, any_more_from p m d e)

pub any_more_below : (p : ℕ → Bool) (m n : ℕ) → m ≤ n → any_below m p ≡ true → any_below n p ≡ true
any_more_below p m n h e =
    let q : m + (n - m) ≡ n = omega arith in
    rw q at (any_more_from p m (n - m) e)

-- ---- every number

all_past : (p : ℕ → Bool) (m d : ℕ) → ((i : ℕ) → m ≤ i → i < m + d → p i ≡ true) → all_below (m + d) p ≡ all_below m p
all_past p m zero h = rw add-zero
all_past p m (suc d) h =
    rw (add-suc, h (m + d) (omega arith) (omega arith), all_past p m d (λ i u v. h i u (omega arith)), and_true)

-- every number from m on passes
pub all_cut : (n m : ℕ) (p : ℕ → Bool) → m ≤ n → ((i : ℕ) → m ≤ i → i < n → p i ≡ true) → all_below n p ≡ all_below m p
all_cut n m p h f =
    let q : m + (n - m) ≡ n = omega arith in
    rw q at (all_past p m (n - m) (λ i u v. f i u (omega arith)))

pub all_each : (n : ℕ) (p : ℕ → Bool) → all_below n p ≡ true → (i : ℕ) → i < n → p i ≡ true
all_each zero p e i h = absurd (not-suc-le-zero h)
all_each (suc n) p e i h =
    by_order i n (all_each n p (and_left (all_below n p) (p n) e) i)
    (λ g. let last : i ≡ n = omega arith in rw last (and_right (all_below n p) (p n) e))

pub each_all : (n : ℕ) (p : ℕ → Bool) → ((i : ℕ) → i < n → p i ≡ true) → all_below n p ≡ true
each_all zero p f = refl
each_all (suc n) p f = rw (each_all n p (λ i h. f i (omega arith))) (f n (omega arith))

-- ---- the least number

pub least_at : (n : ℕ) (p : ℕ → Bool) (i : ℕ) → i < n → ((k : ℕ) → k < i → p k ≡ false) → p i ≡ true → least_below n p ≡ i
unfolding least_below
least_at zero p i h f e = absurd (omega arith)
least_at (suc n) p zero h f e = rw e
least_at (suc n) p (suc i) h f e = rw (f 0 (omega arith)) (ap suc (least_at n (λ j. p (suc j)) i (omega arith) (λ k u. f (suc k) (omega arith)) e))

pub least_none : (n : ℕ) (p : ℕ → Bool) → ((k : ℕ) → k < n → p k ≡ false) → least_below n p ≡ n
unfolding least_below
least_none zero p f = refl
least_none (suc n) p f = rw (f 0 (omega arith)) (ap suc (least_none n (λ j. p (suc j)) (λ k u. f (suc k) (omega arith))))

within_step : (t : Bool) (m n : ℕ) → m ≤ n → cond t 0 (suc m) ≤ suc n
within_step true m n h = omega arith
within_step false m n h = omega arith

pub least_within : (n : ℕ) (p : ℕ → Bool) → least_below n p ≤ n
unfolding least_below
least_within zero p = omega arith
least_within (suc n) p = within_step (p 0) (least_below n (λ j. p (suc j))) n (least_within n (λ j. p (suc j)))

pub least_before : (n : ℕ) (p : ℕ → Bool) (j : ℕ) → j < least_below n p → p j ≡ false
unfolding least_below
least_before zero p j h = absurd (not-suc-le-zero h)
least_before (suc n) p zero h = by_test (p zero) (λ e. absurd (not-suc-le-zero (rw e at h))) (λ e. e)
least_before (suc n) p (suc j) h =
    by_test (p zero) (λ e. absurd (not-suc-le-zero (rw e at h)))
    (λ e. least_before n (λ k. p (suc k)) j (le_of_suc-le-suc (rw e at h)))

pub least_passes : (n : ℕ) (p : ℕ → Bool) → least_below n p < n → p (least_below n p) ≡ true
unfolding least_below
least_passes zero p h = absurd (not-suc-le-zero h)
least_passes (suc n) p h =
    by_test (p zero) (λ e. rw e e) (λ e. rw e (least_passes n (λ k. p (suc k)) (le_of_suc-le-suc (rw e at h))))

-- ---- the number of the bits

number_step : (t : Bool) (s w : ℕ) → s < w → s + cond t w zero < w + w
number_step true s w h = omega arith
number_step false s w h = omega arith

pub number_below : (n : ℕ) (p : ℕ → Bool) → number_of n p < 2 ^ n
unfolding number_of
number_below zero p = omega arith
number_below (suc n) p = omega (arith, number_step (p n) (number_of n p) (2 ^ n) (number_below n p))

pub number_same : (n : ℕ) (p q : ℕ → Bool) → ((i : ℕ) → i < n → p i ≡ q i) → number_of n p ≡ number_of n q
unfolding number_of
number_same zero p q h = refl
number_same (suc n) p q h = rw (h n (omega arith), number_same n p q (λ i u. h i (omega arith)))

-- a number that is 0 has no bit
none_step : (t u : Bool) (s w : ℕ) → 0 < w → eqb s 0 ≡ not u → eqb (s + cond t w zero) 0 ≡ not (u || t)
none_step true u s w h e = rw or_true (ne_eqb (s + w) 0 (λ q. omega arith))
none_step false u s w h e = rw (or_false, add-zero) e

pub number_none : (n : ℕ) (p : ℕ → Bool) → eqb (number_of n p) 0 ≡ not (any_below n p)
unfolding number_of
number_none zero p = refl
number_none (suc n) p = none_step (p n) (any_below n p) (number_of n p) (2 ^ n) (pow_pos n) (number_none n p)
