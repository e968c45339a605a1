-- Laws of `number_of`, the number whose bit j is p j: its bits, what the machine's operations make
-- of it, and its least and greatest bit; and the bits of a part of any number. Assumes nothing.
use Prim.Native.Nat.{ℕ, zero, suc, ◌+◌, ◌*◌, ◌-◌, ◌/◌, ◌%◌, ◌^◌, ◌≤◌, ◌<◌, min, max}
use mathlib.Core.Path.{◌≡◌, refl, sym, ap, subst, ◌∙◌}
use mathlib.Core.Bool.{Bool, true, false, cond, not, ◌&&◌, ◌||◌}
use native.Mathlib.Nat.{add-zero, zero-add, add-suc, suc-add, zero-div, one-mul, mod-eq_of_lt}
use native.Mathlib.Omega.{arith}
use lib.Dec.{eqb, ltb}
use Rattle.std.specs.Prelude.{Option, Some, None}
use Rattle.std.specs.Option.{unwrap_or}
use lib.ListN.{get_or, replicate, get_or-replicate}
use mathlib.Core.List.{List}
use lib.Pow.{pow_pos, pow-lt, shr-shr, field, mod-mod-pow}
use lib.Bits.{bit_and, bit_or, bit_xor, differ, and_step, or_step, xor_step}
use lib.Count.{count_trailing_zeros, count_leading_zeros, under, leading_unique}
use borrow.Author.Tests.{eqb-true, eqb-false, lt-ltb, le-ltb}
use Rattle.bits.specs.Bits.{least_below, greatest_below, number_of, eight_bits}
use Rattle.bits.proofs.Below.{number_same, number_below, least_none}

double : (t : Bool) (n : ℕ) → cond t (2 ^ suc n) 0 ≡ cond t (2 ^ n) 0 * 2
double true n = let e : 2 ^ suc n ≡ 2 ^ n * 2 = omega arith in e
double false n = refl

-- bit 0 apart
number_front : (n : ℕ) (p : ℕ → Bool) → number_of (suc n) p ≡ number_of n (λ j. p (suc j)) * 2 + cond (p 0) 1 0
unfolding number_of
number_front zero p = refl
number_front (suc n) p = omega (arith, number_front n p, double (p (suc n)) n)

half_of : (a : ℕ) (t : Bool) → (a * 2 + cond t 1 0) / 2 ≡ a
half_of a true = omega arith
half_of a false = omega arith

odd_of : (a : ℕ) (t : Bool) → (a * 2 + cond t 1 0) % 2 ≡ cond t 1 0
odd_of a true = omega arith
odd_of a false = omega arith

-- ---- and, or, exclusive or

module _ (op f : ℕ → ℕ → ℕ) (g : Bool → Bool → Bool) (step : (a b : ℕ) → op a b ≡ op (a / 2) (b / 2) * 2 + f (a % 2) (b % 2)) (bits : (s t : Bool) → f (cond s 1 0) (cond t 1 0) ≡ cond (g s t) 1 0) (d : ℕ) (none : (q : ℕ → Bool) → op 0 (number_of d q) ≡ 0) where
  number_op : (n : ℕ) (p q : ℕ → Bool) → op (number_of n p) (number_of (d + n) q) ≡ number_of n (λ j. g (p j) (q j))
  unfolding number_of
  number_op zero p q = rw add-zero (none q)
  number_op (suc n) p q =
      rw (add-suc, number_front n p, number_front (d + n) q, step (number_of n (λ j. p (suc j)) * 2 + cond (p 0) 1 0) (number_of (d + n) (λ j. q (suc j)) * 2 + cond (q 0) 1 0), half_of, half_of, odd_of, odd_of, number_op n (λ j. p (suc j)) (λ j. q (suc j)), bits)
      (sym (number_front n (λ j. g (p j) (q j))))

and_bits : (s t : Bool) → min (cond s 1 0) (cond t 1 0) ≡ cond (s && t) 1 0
and_bits true true = refl
and_bits true false = refl
and_bits false true = refl
and_bits false false = refl

or_bits : (s t : Bool) → max (cond s 1 0) (cond t 1 0) ≡ cond (s || t) 1 0
or_bits true true = refl
or_bits true false = refl
or_bits false true = refl
or_bits false false = refl

xor_bits : (s t : Bool) → differ (cond s 1 0) (cond t 1 0) ≡ cond (cond t (not s) s) 1 0
xor_bits true true = refl
xor_bits true false = refl
xor_bits false true = refl
xor_bits false false = refl

-- the second number may be the longer one
pub number_and : (n d : ℕ) (p q : ℕ → Bool) → bit_and (number_of n p) (number_of (d + n) q) ≡ number_of n (λ j. p j && q j)
unfolding number_of
number_and n d p q = number_op bit_and min (λ s t. s && t) and_step and_bits d (λ r. refl) n p q

pub number_both : (n : ℕ) (p q : ℕ → Bool) → bit_and (number_of n p) (number_of n q) ≡ number_of n (λ j. p j && q j)
unfolding number_of
number_both n p q = rw zero-add at (number_and n 0 p q)

pub number_or : (n : ℕ) (p q : ℕ → Bool) → bit_or (number_of n p) (number_of n q) ≡ number_of n (λ j. p j || q j)
unfolding number_of
number_or n p q = rw zero-add at (number_op bit_or max (λ s t. s || t) or_step or_bits 0 (λ r. refl) n p q)

pub number_xor : (n : ℕ) (p q : ℕ → Bool) → bit_xor (number_of n p) (number_of n q) ≡ number_of n (λ j. cond (q j) (not (p j)) (p j))
unfolding number_of
number_xor n p q = rw zero-add at (number_op bit_xor differ (λ s t. cond t (not s) s) xor_step xor_bits 0 (λ r. refl) n p q)

-- ---- the low bits

number_past : (p : ℕ → Bool) (m d : ℕ) → ((i : ℕ) → m ≤ i → i < m + d → p i ≡ false) → number_of (m + d) p ≡ number_of m p
unfolding number_of
number_past p m zero h = rw add-zero
number_past p m (suc d) h = rw (add-suc, h (m + d) (omega arith) (omega arith), number_past p m d (λ i u v. h i u (omega arith)), add-zero)

-- no bit from m on
pub number_cut : (n m : ℕ) (p : ℕ → Bool) → m ≤ n → ((i : ℕ) → m ≤ i → i < n → p i ≡ false) → number_of n p ≡ number_of m p
unfolding number_of
number_cut n m p h f =
    let q : m + (n - m) ≡ n = omega arith in
    rw q at (number_past p m (n - m) (λ i u v. f i u (omega arith)))

-- every bit
pub number_ones : (n : ℕ) (p : ℕ → Bool) → ((i : ℕ) → i < n → p i ≡ true) → number_of n p + 1 ≡ 2 ^ n
unfolding number_of
number_ones zero p f = refl
number_ones (suc n) p f = rw (f n (omega arith)) (omega (arith, number_ones n p (λ i u. f i (omega arith))))

-- the bits below m
pub number_first : (n m : ℕ) → m ≤ n → number_of n (λ j. ltb j m) + 1 ≡ 2 ^ m
unfolding number_of
number_first n m h =
    rw (number_cut n m (λ j. ltb j m) h (λ i u v. le-ltb i m u)) (number_ones m (λ j. ltb j m) (λ i u. lt-ltb i m u))

-- ---- shifts and single bits

pub number_shift : (d n : ℕ) (p : ℕ → Bool) → number_of (d + n) p / 2 ^ d ≡ number_of n (λ j. p (d + j))
unfolding number_of
number_shift zero n p = rw zero-add (omega arith ∙ number_same n p (λ j. p (0 + j)) (λ i u. ap p (sym (zero-add i))))
number_shift (suc d) n p =
    rw suc-add
    (ap (λ (e : ℕ). number_of (suc (d + n)) p / 2 ^ e) (omega arith)
    ∙ sym (shr-shr (number_of (suc (d + n)) p) 1 d)
    ∙ rw (number_front (d + n) p, half_of)
    (number_shift d n (λ j. p (suc j)) ∙ number_same n (λ j. p (suc (d + j))) (λ j. p (suc d + j)) (λ i u. ap p (sym (suc-add d i)))))

pub number_bit : (n j : ℕ) (p : ℕ → Bool) → j < n → number_of n p / 2 ^ j % 2 ≡ cond (p j) 1 0
unfolding number_of
number_bit n j p h =
    let q : j + suc (n - suc j) ≡ n = omega arith in
    subst (λ (m : ℕ). number_of m p / 2 ^ j % 2 ≡ cond (p j) 1 0) q
    (rw (number_shift j (suc (n - suc j)) p, number_front (n - suc j) (λ i. p (j + i)), odd_of, add-zero j))

bit_set : (t : Bool) → eqb (cond t 1 0) 1 ≡ t
bit_set true = refl
bit_set false = refl

-- the same as a test
pub number_set : (n j : ℕ) (p : ℕ → Bool) → j < n → eqb (number_of n p / 2 ^ j % 2) 1 ≡ p j
number_set n j p h = rw (number_bit n j p h) (bit_set (p j))

-- bit j of a number's low n bits, and of the n bits from place q on
cut_bit_by : (x d j : ℕ) → x % 2 ^ (d + 1 + j) / 2 ^ j % 2 ≡ x / 2 ^ j % 2
cut_bit_by x d j = ap (λ (m : ℕ). m % 2) (field x (d + 1) j) ∙ mod-mod-pow (x / 2 ^ j) d 1

pub cut_bit : (x n j : ℕ) → j < n → x % 2 ^ n / 2 ^ j % 2 ≡ x / 2 ^ j % 2
cut_bit x n j h =
    let q : n - suc j + 1 + j ≡ n = omega arith in
    subst (λ (m : ℕ). x % 2 ^ m / 2 ^ j % 2 ≡ x / 2 ^ j % 2) q (cut_bit_by x (n - suc j) j)

pub bit_from : (x q n j i : ℕ) → j < n → q + j ≡ i → x / 2 ^ q % 2 ^ n / 2 ^ j % 2 ≡ x / 2 ^ i % 2
bit_from x q n j i h e =
    cut_bit (x / 2 ^ q) n j h ∙ ap (λ (m : ℕ). m % 2) (shr-shr x q j ∙ ap (λ (m : ℕ). x / 2 ^ m) e)

no_bit : (t : Bool) → ◌≡◌ {A = ℕ} (cond t 1 0) 0 → t ≡ false
no_bit true e =
    let z : ◌≡◌ {A = ℕ} 1 0 = e in
    absurd (omega arith)
no_bit false e = refl

pub number_zero : (n j : ℕ) (p : ℕ → Bool) → j < n → number_of n p ≡ 0 → p j ≡ false
unfolding number_of
number_zero n j p h e = no_bit (p j) (sym (number_bit n j p h) ∙ rw (e, zero-div (2 ^ j)))

same_bit : (s t : Bool) → ◌≡◌ {A = ℕ} (cond s 1 0) (cond t 1 0) → s ≡ t
same_bit true true e = refl
same_bit true false e =
    let z : ◌≡◌ {A = ℕ} 1 0 = e in
    absurd (omega arith)
same_bit false true e =
    let z : ◌≡◌ {A = ℕ} 0 1 = e in
    absurd (omega arith)
same_bit false false e = refl

-- equal numbers have equal bits
pub number_bits : (n j : ℕ) (p q : ℕ → Bool) → j < n → number_of n p ≡ number_of n q → p j ≡ q j
unfolding number_of
number_bits n j p q h e =
    same_bit (p j) (q j) (sym (number_bit n j p h) ∙ ap (λ (m : ℕ). m / 2 ^ j % 2) e ∙ number_bit n j q h)

-- ---- the least and the greatest bit

under_bit : (t : Bool) (m : ℕ) → under (cond t 1 0) m ≡ cond t 0 (suc m)
under_bit true m = refl
under_bit false m = refl

least_by : (t : Bool) (a b s : ℕ) → 0 < s * 2 + cond t 1 0 → (0 < s → a ≡ b) → cond t 0 (suc a) ≡ cond t 0 (suc b)
least_by true a b s e h = refl
least_by false a b s e h =
    let z : 0 < s * 2 + 0 = e in
    ap suc (h (omega arith))

pub number_least : (k n : ℕ) (p : ℕ → Bool) → n ≤ k → 0 < number_of n p → count_trailing_zeros k (number_of n p) ≡ least_below n p
unfolding count_trailing_zeros number_of least_below
number_least k zero p h e = absurd (omega arith)
number_least zero (suc n) p h e = absurd (omega arith)
number_least (suc k) (suc n) p h e =
    let z : 0 < number_of n (λ j. p (suc j)) * 2 + cond (p 0) 1 0 = rw (number_front n p) at e in
    rw (number_front n p, half_of, odd_of, under_bit)
    (least_by (p 0) (count_trailing_zeros k (number_of n (λ j. p (suc j)))) (least_below n (λ j. p (suc j))) (number_of n (λ j. p (suc j))) z (number_least k n (λ j. p (suc j)) (omega arith)))

none_by : (t : Bool) (n g m : ℕ) (s : ℕ) → s + cond t (2 ^ n) 0 ≡ 0 → (s ≡ 0 → g ≡ m) → cond t n g ≡ m
none_by true n g m s e h =
    let z : s + 2 ^ n ≡ 0 = e in
    absurd (omega (arith, pow_pos n))
none_by false n g m s e h =
    let z : s + 0 ≡ 0 = e in
    h (omega arith)

pub greatest_none : (n : ℕ) (p : ℕ → Bool) (m : ℕ) → number_of n p ≡ 0 → greatest_below n p m ≡ m
unfolding number_of greatest_below
greatest_none zero p m e = refl
greatest_none (suc n) p m e = none_by (p n) n (greatest_below n p m) m (number_of n p) e (greatest_none n p m)

top_by : (k : ℕ) (t : Bool) (n g : ℕ) (s : ℕ) → suc n ≤ k → s < 2 ^ n → 0 < s + cond t (2 ^ n) 0 → (0 < s → count_leading_zeros k s + suc g ≡ k) → count_leading_zeros k (s + cond t (2 ^ n) 0) + suc (cond t n g) ≡ k
top_by k true n g s h b e f =
    let q : k - suc n + suc n ≡ k = omega arith in
    let u : s + 2 ^ n < 2 ^ suc n = omega arith in
    let v : 2 ^ suc n ≤ 2 * (s + 2 ^ n) + 1 = omega arith in
    rw (← leading_unique k (s + 2 ^ n) (k - suc n) (suc n) q u v) q
top_by k false n g s h b e f =
    let z : 0 < s + 0 = e in
    rw (add-zero s) (f (omega arith))

-- the zeros above the greatest bit, that bit, and the bits below it
pub number_greatest : (k n : ℕ) (p : ℕ → Bool) (m : ℕ) → n ≤ k → 0 < number_of n p → count_leading_zeros k (number_of n p) + suc (greatest_below n p m) ≡ k
unfolding number_of greatest_below
number_greatest k zero p m h e = absurd (omega arith)
number_greatest k (suc n) p m h e =
    top_by k (p n) n (greatest_below n p m) (number_of n p) h (number_below n p) e (number_greatest k n p m (omega arith))

-- ---- what `least` and `greatest` read off a number of b bits

least_by_test : (b n : ℕ) (p : ℕ → Bool) (t : Bool) → b ≤ 32 → n ≡ number_of b p → eqb n 0 ≡ t → cond t b (count_trailing_zeros 32 n) ≡ least_below b p
unfolding number_of least_below
least_by_test b n p true h e q = sym (least_none b p (λ j u. number_zero b j p u (sym e ∙ eqb-true n 0 q)))
least_by_test b n p false h e q =
    let z : 0 < n = omega (arith, eqb-false n 0 q) in
    rw e (number_least 32 b p h (rw (← e) z))

pub least_read : (b n : ℕ) (p : ℕ → Bool) → b ≤ 32 → n ≡ number_of b p → cond (eqb n 0) b (count_trailing_zeros 32 n) ≡ least_below b p
unfolding number_of least_below
least_read b n p h e = least_by_test b n p (eqb n 0) h e refl

greatest_by_test : (b n : ℕ) (p : ℕ → Bool) (t : Bool) → b ≤ 32 → n ≡ number_of b p → eqb n 0 ≡ t → cond t b (31 - count_leading_zeros 32 n) ≡ greatest_below b p b
unfolding number_of greatest_below
greatest_by_test b n p true h e q = sym (greatest_none b p b (sym e ∙ eqb-true n 0 q))
greatest_by_test b n p false h e q =
    let z : 0 < n = omega (arith, eqb-false n 0 q) in
    let g : count_leading_zeros 32 n + suc (greatest_below b p b) ≡ 32 =
    rw (← e) at (number_greatest 32 b p b h (rw (← e) z)) in
    let r : 31 - count_leading_zeros 32 n ≡ greatest_below b p b = omega arith in
    r

pub greatest_read : (b n : ℕ) (p : ℕ → Bool) → b ≤ 32 → n ≡ number_of b p → cond (eqb n 0) b (31 - count_leading_zeros 32 n) ≡ greatest_below b p b
unfolding number_of greatest_below
greatest_read b n p h e = greatest_by_test b n p (eqb n 0) h e refl

found_or : (t : Bool) (x b : ℕ) → unwrap_or (cond t None (Some x)) b ≡ cond t b x
found_or true x b = refl
found_or false x b = refl

-- the least set bit that is found, or b
pub least_or : (b n : ℕ) (o : Option ℕ) (p : ℕ → Bool) → b ≤ 32 → n ≡ number_of b p → o ≡ cond (eqb n 0) None (Some (count_trailing_zeros 32 n)) → unwrap_or o b ≡ least_below b p
unfolding number_of least_below
least_or b n o p h e q = rw q (found_or (eqb n 0) (count_trailing_zeros 32 n) b ∙ least_read b n p h e)

-- ---- the low bits, as the code makes them

pub shifted_one : (n : ℕ) → n < 16 → (1 * 2 ^ n) % 2 ^ 32 ≡ 2 ^ n
shifted_one n h = rw one-mul (mod-eq_of_lt (pow-lt {j = 32} (omega arith)))

pub every_bit : (n m : ℕ) → n ≤ m → number_of n (λ j. ltb j m) ≡ number_of n (λ j. true)
unfolding number_of
every_bit n m h = number_same n (λ j. ltb j m) (λ j. true) (λ j u. lt-ltb j m (omega arith))

-- every bit set
pub sixteen_ones : 65535 ≡ number_of 16 (λ j. true)
unfolding number_of
sixteen_ones = refl

pub eight_ones : 255 ≡ number_of 8 (λ j. true)
unfolding number_of
eight_ones = refl

-- the bits from 16 on, and from 8 on, of 32
pub past_sixteen : 4294901760 ≡ number_of 32 (λ j. not (ltb j 16))
unfolding number_of
past_sixteen = refl

pub past_eight : 4294967040 ≡ number_of 32 (λ j. not (ltb j 8))
unfolding number_of
past_eight = refl

-- no bit set
pub no_bits : (n : ℕ) → 0 ≡ number_of n (λ j. false)
unfolding number_of
no_bits zero = refl
no_bits (suc n) = rw (← no_bits n)

-- ---- bits written out

unfoldable weights : ℕ → (ℕ → Bool) → ℕ
weights zero p = 0
weights (suc n) p = cond (p 0) 1 0 + 2 * weights n (λ j. p (suc j))

number_weights : (n : ℕ) (p : ℕ → Bool) → weights n p ≡ number_of n p
unfolding weights number_of
number_weights zero p = refl
number_weights (suc n) p = omega (arith, number_front n p, number_weights n (λ j. p (suc j)))

pub number_eight : (p : ℕ → Bool) → eight_bits p ≡ number_of 8 p
unfolding weights number_of
number_eight p = number_weights 8 p

pub number_sixteen : (p : ℕ → Bool) → eight_bits p + 256 * eight_bits (λ j. p (8 + j)) ≡ number_of 16 p
unfolding weights number_of
number_sixteen p = omega (arith, number_weights 16 p)

-- a block compared with one value, repeated
pub number_repeated : (n : ℕ) (x : List ℕ) (y : ℕ) → number_of n (λ j. eqb (get_or x j 0) (get_or (replicate n y) j 0)) ≡ number_of n (λ j. eqb (get_or x j 0) y)
number_repeated n x y =
    number_same n _ (λ j. eqb (get_or x j 0) y) (λ j h. ap (eqb (get_or x j 0)) (get_or-replicate n j y 0 h))
