-- The laws of `digits`. Three of them fix it: `digits_numeral` (the digits of n are a numeral),
-- `value_digits` (read back they are n), `digits_value` (no other numeral stands for n).
-- `fits_width` and `fits_not` compare the number of digits with powers of ten. Assumes nothing.
use Prim.Native.Nat.{ℕ, zero, suc, ◌+◌, ◌-◌, ◌*◌, ◌/◌, ◌%◌, ◌^◌, ◌≤◌, ◌<◌}
use mathlib.Core.Path.{◌≡◌, refl}
use mathlib.Core.Logic.{by_cases}
use mathlib.Core.List.{List, [], ◌∷◌, ◌++◌, append_assoc, append-nil}
use native.Mathlib.Nat.{not-suc-le-zero, pow-suc, one-le-pow}
use native.Mathlib.Decide.{dec_lt}
use native.Mathlib.Omega.{arith}
use lib.ListN.{length, get_or, length-append, get_or-append}
use lib.Seq.{get_or_at}
use Rattle.decimal.specs.Decimal.{digits, digits_within, unless_zero, value, value_after, Numeral}

-- ---- the last digit, and those before it

unless_same : (f g : ℕ → List ℕ) (q : ℕ) → (0 < q → f q ≡ g q) → unless_zero f q ≡ unless_zero g q
unless_same f g zero h = refl
unless_same f g (suc q) h = h (omega arith)

unless_some : (f : ℕ → List ℕ) (q : ℕ) → 0 < q → unless_zero f q ≡ f q
unless_some f zero h = absurd (not-suc-le-zero h)
unless_some f (suc q) h = refl

-- any bound above n serves
enough : (m k n : ℕ) → n < m → n < k → digits_within m n ≡ digits_within k n
unfolding digits_within
enough zero k n h g = absurd (not-suc-le-zero h)
enough (suc m) zero n h g = absurd (not-suc-le-zero g)
enough (suc m) (suc k) n h g =
    rw (unless_same (digits_within m) (digits_within k) (n / 10) (λ p. enough m k (n / 10) (omega arith) (omega arith)))

pub digits_one : (n : ℕ) → n < 10 → digits n ≡ (48 + n) ∷ []
unfolding digits digits_within
digits_one n h =
    let q : n / 10 ≡ 0 = omega arith in
    let r : n % 10 ≡ n = omega arith in
    rw (q, r)

within_more : (m n : ℕ) → 10 ≤ n → digits_within (suc m) n ≡ digits_within m (n / 10) ++ ((48 + n % 10) ∷ [])
unfolding digits_within
within_more m n h = rw (unless_some (digits_within m) (n / 10) (omega arith))

pub digits_more : (n : ℕ) → 10 ≤ n → digits n ≡ digits (n / 10) ++ ((48 + n % 10) ∷ [])
unfolding digits
digits_more n h = rw (within_more n n h, enough n (suc (n / 10)) (n / 10) (omega arith) (omega arith))

-- what holds of a number of one digit, and of n where it holds of n / 10, holds of every number
module _ (P : ℕ → Type 0) (one : (n : ℕ) → n < 10 → P n) (more : (n : ℕ) → 10 ≤ n → P (n / 10) → P n) where
  below : (m n : ℕ) → n < m → P n
  below zero n h = absurd (not-suc-le-zero h)
  below (suc m) n h = by_cases (dec_lt n 10) (one n) (λ g. more n (omega arith) (below m (n / 10) (omega arith)))

  pub by_digits : (n : ℕ) → P n
  by_digits n = below (suc n) n (omega arith)

-- one digit more
pub digits_next : (n d : ℕ) → 0 < n → 48 ≤ d → d ≤ 57 → digits (n * 10 + (d - 48)) ≡ digits n ++ (d ∷ [])
digits_next n d h l g =
    let q : (n * 10 + (d - 48)) / 10 ≡ n = omega arith in
    let r : 48 + (n * 10 + (d - 48)) % 10 ≡ d = omega arith in
    rw (digits_more (n * 10 + (d - 48)) (omega arith), q, r)

-- ---- read back

value_last : (n d : ℕ) (ds : List ℕ) → value_after n (ds ++ (d ∷ [])) ≡ value_after n ds * 10 + (d - 48)
value_last n d [] = refl
value_last n d (x ∷ ds) = value_last (n * 10 + (x - 48)) d ds

-- the digits of n stand for n
pub value_digits : (n : ℕ) → value (digits n) ≡ n
value_digits =
    by_digits (λ n. value (digits n) ≡ n) (λ n h. rw (digits_one n h) (omega arith))
    (λ n h e. rw (digits_more n h, value_last 0 (48 + n % 10) (digits (n / 10)), e) (omega arith))

-- ---- a numeral

pub some_digit : (n : ℕ) → 0 < length (digits n)
some_digit =
    by_digits (λ n. 0 < length (digits n)) (λ n h. rw (digits_one n h) (omega arith))
    (λ n h e. rw (digits_more n h, length-append) (omega arith))

abbrev Digit : List ℕ → ℕ → Type 0
Digit ds i = (48 ≤ get_or ds i 0) × (get_or ds i 0 ≤ 57)

each_last : (ds : List ℕ) (d : ℕ) → ((i : ℕ) → i < length ds → Digit ds i) → 48 ≤ d → d ≤ 57 → (i : ℕ) → i < length (ds ++ (d ∷ [])) → Digit (ds ++ (d ∷ [])) i
each_last ds d f l g i h =
    by_cases (dec_lt i (length ds)) (λ u. rw (get_or-append ds (d ∷ []) 0 i u) (f i u))
    (λ u. let e : length ds ≡ i = omega (arith, rw length-append at h) in rw (get_or_at ds d [] 0 i e) (l, g))

each_digit : (n i : ℕ) → i < length (digits n) → Digit (digits n) i
each_digit =
    by_digits (λ n. (i : ℕ) → i < length (digits n) → Digit (digits n) i)
    (λ n h. rw (digits_one n h) (each_last [] (48 + n) (λ i u. absurd (not-suc-le-zero u)) (omega arith) (omega arith)))
    (λ n h f. rw (digits_more n h) (each_last (digits (n / 10)) (48 + n % 10) f (omega arith) (omega arith)))

leading_digit : (n : ℕ) → 0 < n → 49 ≤ get_or (digits n) 0 0
leading_digit =
    by_digits (λ n. 0 < n → 49 ≤ get_or (digits n) 0 0) (λ n h p. rw (digits_one n h) (omega arith))
    (λ n h f p. rw (digits_more n h, get_or-append (digits (n / 10)) ((48 + n % 10) ∷ []) 0 0 (some_digit (n / 10))) (f (omega arith)))

-- one digit or more, each a byte from 48 to 57, and no leading zero but in 0 itself
pub digits_numeral : (n : ℕ) → Numeral (digits n)
digits_numeral n = record { some = some_digit n; each = each_digit n; lead = λ h. by_cases (dec_lt 0 n) (leading_digit n) (λ g. absurd (omega (arith, rw (digits_one n (omega arith)) at h))) }

-- ---- no other numeral

-- the digits of n, and then more of them
digits_after : (ds : List ℕ) (n : ℕ) → 0 < n → ((i : ℕ) → i < length ds → Digit ds i) → digits (value_after n ds) ≡ digits n ++ ds
digits_after [] n h f = rw append-nil
digits_after (d ∷ ds) n h f =
    rw (digits_after ds (n * 10 + (d - 48)) (omega arith) (λ i u. f (suc i) (omega arith)), digits_next n d h (f 0 (omega arith)).0 (f 0 (omega arith)).1, append_assoc)

-- a numeral is the digits of the number that it stands for
pub digits_value : (ds : List ℕ) → Numeral ds → digits (value ds) ≡ ds
digits_value [] p = absurd (not-suc-le-zero p.some)
digits_value (d ∷ []) p =
    let l : (48 ≤ d) × (d ≤ 57) = p.each 0 (omega arith) in
    let e : 48 + (0 + (d - 48)) ≡ d = omega arith in
    rw (digits_one (0 + (d - 48)) (omega arith), e)
digits_value (d ∷ x ∷ ds) p =
    let l : (48 ≤ d) × (d ≤ 57) = p.each 0 (omega arith) in
    let g : 49 ≤ d = p.lead (omega arith) in
    let e : 48 + (0 + (d - 48)) ≡ d = omega arith in
    rw (digits_after (x ∷ ds) (0 + (d - 48)) (omega arith) (λ i u. p.each (suc i) (omega arith)), digits_one (0 + (d - 48)) (omega arith), e)

-- ---- how many digits

pub fits_width : (w n : ℕ) → 0 < w → n < 10 ^ w → length (digits n) ≤ w
fits_width zero n h g = absurd (not-suc-le-zero h)
fits_width (suc zero) n h g = rw (digits_one n g) (omega arith)
fits_width (suc (suc w)) n h g =
    by_cases (dec_lt n 10) (λ u. rw (digits_one n u) (omega arith))
    (λ u. rw (digits_more n (omega arith), length-append) (omega (arith, fits_width (suc w) (n / 10) (omega arith) (omega (arith, pow-suc 10 (suc w))))))

pub fits_not : (w n : ℕ) → 10 ^ w ≤ n → w < length (digits n)
fits_not zero n h = some_digit n
fits_not (suc w) n h =
    let p : 10 ^ w * 10 ≤ n = rw pow-suc at h in
    let q : 10 ≤ n = omega (arith, one-le-pow w 10 (omega arith)) in
    rw (digits_more n q, length-append) (omega (arith, fits_not w (n / 10) (omega arith)))
