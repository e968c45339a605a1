-- What the loops of crate `modes` compute, as numbers of b bits. Stated over b,
-- which is 16 or 8. Assumes nothing.
use Prim.Native.Nat.{ℕ, zero, suc, ◌+◌, ◌*◌, ◌-◌, ◌/◌, ◌%◌, ◌^◌, ◌≤◌, ◌<◌, min}
use mathlib.Core.Path.{◌≡◌, refl, sym, ap, subst, ◌∙◌}
use mathlib.Core.Bool.{Bool, true, false, cond, not, ◌&&◌, ◌||◌}
use mathlib.Core.List.{List, [], ◌∷◌, ◌++◌}
use native.Mathlib.Nat.{add-zero, add-suc, add_comm, lt_of_le_of_lt, mod-eq_of_lt, mod-lt, zero-div, zero-mod}
use native.Mathlib.Numerals.{add-one}
use native.Mathlib.Omega.{arith}
use lib.Dec.{eqb, ltb}
use lib.ListN.{get_or, replicate}
use lib.IntN.{ℤ}
use lib.Bits.{bit_and, bit_or, bit_xor, and_le_l, and_mask, and_mod, and_shr}
use lib.Pow.{field, mod-mod-pow, pow_pos, shl-shr, shr-shr}
use borrow.Author.Tests.{eq-eqb, ne_eqb, lt-ltb, le-ltb}
use Rattle.bits.specs.Bits.{all_below, number_of, tabulate}
use Rattle.bits.proofs.Below.{and_over_or, or_true, and_true, and_false, any_more_below, all_cut, by_order, by_test, number_same}
use Rattle.bits.proofs.Lists.{get_or_tabulate, tabulate_same}
use Rattle.bits.proofs.Numbers.{number_and, number_both, number_or, number_xor, number_cut, number_shift, number_bit, number_zero, number_bits, cut_bit, no_bits}
use Rattle.unit.specs.declared.Aggregation.TheVariants.{EqualEach, EqualOrdered}
use Rattle.unit.specs.Compare.{override}
use Rattle.unit.specs.Modes.{is_in, any_of, between, in_range, ranges_of, each_of, follows, ordered_of}

-- `bits::first(l)` in a number of b bits
pub first_cut : (b l v : ℕ) → b ≤ 16 → l ≤ b → v ≡ number_of 16 (λ j. ltb j l) → v ≡ number_of b (λ j. ltb j l)
first_cut b l v h u e = e ∙ number_cut 16 b (λ j. ltb j l) h (λ i w z. le-ltb i l (omega arith))

-- ---- equal any

module _ (b : ℕ) (x₁ : List ℕ) (x₂ : List ℕ) (l₂ : ℕ) (h : b ≤ 16) (h₂ : l₂ ≤ b) where
  -- no element of operand 1 yet
  pub any_start : 0 ≡ number_of b (any_of x₁ 0 x₂ l₂)
  any_start = no_bits b

  -- one element of operand 1 more
  pub any_more : (i r s v : ℕ) → r ≡ number_of b (any_of x₁ i x₂ l₂) → s ≡ number_of b (λ j. eqb (get_or x₂ j 0) (get_or x₁ i 0)) → v ≡ number_of 16 (λ j. ltb j l₂) → bit_or r (bit_and s v) ≡ number_of b (any_of x₁ (i + 1) x₂ l₂)
  any_more i r s v d e f =
      rw (d, e, first_cut b l₂ v h h₂ f, number_both b (λ j. eqb (get_or x₂ j 0) (get_or x₁ i 0)) (λ j. ltb j l₂), add-one)
      (number_or b (any_of x₁ i x₂ l₂) (λ j. eqb (get_or x₂ j 0) (get_or x₁ i 0) && ltb j l₂)
      ∙ number_same b _ (any_of x₁ (suc i) x₂ l₂) (λ j u. and_over_or (is_in x₁ i (get_or x₂ j 0)) (eqb (get_or x₂ j 0) (get_or x₁ i 0)) (ltb j l₂)))

  full_bit : (s t v : Bool) → (s ≡ true → t ≡ true) → s && v ≡ v → s && v ≡ t && v
  full_bit true t true f e = rw (f refl)
  full_bit true true false f e = refl
  full_bit true false false f e = refl
  full_bit false true false f e = refl
  full_bit false false false f e = refl
  full_bit false true true f e = e
  full_bit false false true f e = refl

  -- every valid element found: the other elements of operand 1 change nothing
  pub any_full : (i n r v : ℕ) → i ≤ n → r ≡ number_of b (any_of x₁ i x₂ l₂) → v ≡ number_of 16 (λ j. ltb j l₂) → r ≡ v → r ≡ number_of b (any_of x₁ n x₂ l₂)
  any_full i n r v u d f e =
      d
      ∙ number_same b (any_of x₁ i x₂ l₂) (any_of x₁ n x₂ l₂)
      (λ j w.
      full_bit (is_in x₁ i (get_or x₂ j 0)) (is_in x₁ n (get_or x₂ j 0)) (ltb j l₂) (any_more_below (λ m. eqb (get_or x₂ j 0) (get_or x₁ m 0)) i n u)
      (number_bits b j (any_of x₁ i x₂ l₂) (λ m. ltb m l₂) w (sym d ∙ e ∙ first_cut b l₂ v h h₂ f)))

-- ---- ranges: rows of marks, 0 or v

replicate_more : (n : ℕ) → ◌≡◌ {A = List ℕ} (replicate (suc n) 0) (replicate n 0 ++ (0 ∷ []))
replicate_more zero = refl
replicate_more (suc n) = ap (λ (xs : List ℕ). 0 ∷ xs) (replicate_more n)

replicated : (n : ℕ) → ◌≡◌ {A = List ℕ} (replicate n 0) (tabulate n (λ j. 0))
unfolding tabulate
replicated zero = refl
replicated (suc n) = replicate_more n ∙ ap (λ (xs : List ℕ). xs ++ (0 ∷ [])) (replicated n)

marks_more : (v : ℕ) (s t : Bool) → cond t v (cond s v 0) ≡ cond (s || t) v 0
marks_more v true true = refl
marks_more v true false = refl
marks_more v false true = refl
marks_more v false false = refl

module _ (b v : ℕ) (value : ℕ → ℤ) (x₁ x₂ : List ℕ) where
  -- the marks of the first i ranges
  abbrev pub row_to : ℕ → List ℕ
  row_to i = tabulate b (λ j. cond (in_range value x₁ i (get_or x₂ j 0)) v 0)

  pub row_start : (row : List ℕ) → row ≡ replicate b 0 → row ≡ row_to 0
  row_start row e = e ∙ replicated b

  pub row_more : (i : ℕ) (row next : List ℕ) → row ≡ row_to i → next ≡ tabulate b (λ j. cond (between value (get_or x₁ (2 * i) 0) (get_or x₁ (2 * i + 1) 0) (get_or x₂ j 0)) v (get_or row j 0)) → next ≡ row_to (i + 1)
  row_more i row next d e =
      rw (e, d, add-one i)
      (tabulate_same b _ (λ j. cond (in_range value x₁ (suc i) (get_or x₂ j 0)) v 0)
      (λ j u.
      rw (get_or_tabulate b j (λ m. cond (in_range value x₁ i (get_or x₂ m 0)) v 0) 0 u)
      (marks_more v (in_range value x₁ i (get_or x₂ j 0)) (between value (get_or x₁ (2 * i) 0) (get_or x₁ (2 * i + 1) 0) (get_or x₂ j 0)))))

  marked : (t : Bool) → 0 < v → eqb (cond t v 0) v ≡ t
  marked true z = eq-eqb v v refl
  marked false z = ne_eqb 0 v (λ e. omega arith)

  -- the row read back as a number, cut to the valid elements
  pub ranges_made : (n l₂ s w : ℕ) (row : List ℕ) → 0 < v → b ≤ 16 → l₂ ≤ b → row ≡ row_to n → s ≡ number_of b (λ j. eqb (get_or row j 0) v) → w ≡ number_of 16 (λ j. ltb j l₂) → bit_and s w ≡ number_of b (ranges_of value x₁ n x₂ l₂)
  ranges_made n l₂ s w row z h u d e f =
      rw (e, first_cut b l₂ w h u f, number_both b (λ j. eqb (get_or row j 0) v) (λ j. ltb j l₂))
      (number_same b _ (ranges_of value x₁ n x₂ l₂)
      (λ j y.
      let m : eqb (get_or row j 0) v ≡ in_range value x₁ n (get_or x₂ j 0) =
      rw (d, get_or_tabulate b j (λ i. cond (in_range value x₁ n (get_or x₂ i 0)) v 0) 0 y) (marked (in_range value x₁ n (get_or x₂ j 0)) z) in
      ap (λ (t : Bool). t && ltb j l₂) m))

-- ---- equal each

each_bit : (v w e : Bool) → (e && v && w || not (v || w)) ≡ override EqualEach v w e
each_bit true true true = refl
each_bit true true false = refl
each_bit true false true = refl
each_bit true false false = refl
each_bit false true true = refl
each_bit false true false = refl
each_bit false false true = refl
each_bit false false false = refl

pub each_made : (b : ℕ) (x₁ : List ℕ) (l₁ : ℕ) (x₂ : List ℕ) (l₂ : ℕ) (e v w ones : ℕ) → b ≤ 16 → l₁ ≤ b → l₂ ≤ b → ones ≡ number_of b (λ j. true) → e ≡ number_of b (λ j. eqb (get_or x₂ j 0) (get_or x₁ j 0)) → v ≡ number_of 16 (λ j. ltb j l₁) → w ≡ number_of 16 (λ j. ltb j l₂) → bit_or (bit_and (bit_and e v) w) (bit_xor (bit_or v w) ones) ≡ number_of b (each_of x₁ l₁ x₂ l₂)
each_made b x₁ l₁ x₂ l₂ e v w ones h h₁ h₂ o d f g =
    rw (d, first_cut b l₁ v h h₁ f, first_cut b l₂ w h h₂ g, o, number_both b (λ j. eqb (get_or x₂ j 0) (get_or x₁ j 0)) (λ j. ltb j l₁), number_both b (λ j. eqb (get_or x₂ j 0) (get_or x₁ j 0) && ltb j l₁) (λ j. ltb j l₂), number_or b (λ j. ltb j l₁) (λ j. ltb j l₂), number_xor b (λ j. ltb j l₁ || ltb j l₂) (λ j. true), number_or b (λ j. eqb (get_or x₂ j 0) (get_or x₁ j 0) && ltb j l₁ && ltb j l₂) (λ j. not (ltb j l₁ || ltb j l₂)))
    (number_same b _ (each_of x₁ l₁ x₂ l₂) (λ i u. each_bit (ltb i l₁) (ltb i l₂) (eqb (get_or x₂ i 0) (get_or x₁ i 0))))

-- two parts of one length differ at a valid element, or nowhere
one_length : (t r : Bool) → (not r && t) ≡ not (override EqualEach t t r)
one_length true true = refl
one_length true false = refl
one_length false true = refl
one_length false false = refl

pub differ_made : (b : ℕ) (x₁ x₂ : List ℕ) (l : ℕ) (e v ones : ℕ) → b ≤ 16 → l ≤ b → ones ≡ number_of b (λ j. true) → e ≡ number_of b (λ j. eqb (get_or x₂ j 0) (get_or x₁ j 0)) → v ≡ number_of 16 (λ j. ltb j l) → bit_and (bit_xor e ones) v ≡ number_of b (λ j. not (each_of x₁ l x₂ l j))
differ_made b x₁ x₂ l e v ones h h₁ o d f =
    rw (d, first_cut b l v h h₁ f, o, number_xor b (λ j. eqb (get_or x₂ j 0) (get_or x₁ j 0)) (λ j. true), number_both b (λ j. not (eqb (get_or x₂ j 0) (get_or x₁ j 0))) (λ j. ltb j l))
    (number_same b _ (λ j. not (each_of x₁ l x₂ l j)) (λ i u. one_length (ltb i l) (eqb (get_or x₂ i 0) (get_or x₁ i 0))))

-- ---- equal ordered

ordered_bit : (v e : Bool) → (e && v || false) ≡ override EqualOrdered true v e
ordered_bit true true = refl
ordered_bit true false = refl
ordered_bit false true = refl
ordered_bit false false = refl

all_fewer : (p : ℕ → Bool) (m d : ℕ) → all_below m p ≡ false → all_below (m + d) p ≡ false
all_fewer p m zero e = rw add-zero e
all_fewer p m (suc d) e = rw (add-suc, all_fewer p m d e)

all_less : (p : ℕ → Bool) (m n : ℕ) → m ≤ n → all_below m p ≡ false → all_below n p ≡ false
all_less p m n h e =
    let q : m + (n - m) ≡ n = omega arith in
    rw q at (all_fewer p m (n - m) e)

-- Positions in a number of 32 bits that is shifted up by one a turn: after i turns they are its b
-- bits from i on. An and with b bits sees b bits.
and_low : (b a m : ℕ) → a < 2 ^ b → bit_and a (m % 2 ^ b) ≡ bit_and a m
and_low b a m h =
    ap (λ (x : ℕ). bit_and x (m % 2 ^ b)) (sym (mod-eq_of_lt h))
    ∙ sym (and_mod a m b)
    ∙ mod-eq_of_lt (lt_of_le_of_lt (and_le_l a m) h)

-- what is shifted out at the top is not among them
up_down : (b i y : ℕ) → i + 1 + b ≤ 32 → (y * 2 ^ 1) % 2 ^ 32 / 2 ^ (i + 1) % 2 ^ b ≡ y / 2 ^ i % 2 ^ b
up_down b i y h =
    let n : 32 - (i + 1) + (i + 1) ≡ 32 = omega arith in
    let m : 32 - (i + 1) - b + b ≡ 32 - (i + 1) = omega arith in
    let k : 1 + i ≡ i + 1 = omega arith in
    let f : (y * 2 ^ 1) % 2 ^ 32 / 2 ^ (i + 1) ≡ y / 2 ^ i % 2 ^ (32 - (i + 1)) =
    subst (λ (t : ℕ). (y * 2 ^ 1) % 2 ^ t / 2 ^ (i + 1) ≡ (y * 2 ^ 1) / 2 ^ (i + 1) % 2 ^ (32 - (i + 1))) n (field (y * 2 ^ 1) (32 - (i + 1)) (i + 1))
    ∙ ap (λ (x : ℕ). x % 2 ^ (32 - (i + 1)))
    (subst (λ (t : ℕ). (y * 2 ^ 1) / 2 ^ t ≡ y / 2 ^ i) k (sym (shr-shr (y * 2 ^ 1) 1 i) ∙ ap (λ (x : ℕ). x / 2 ^ i) (shl-shr y 1))) in
    ap (λ (x : ℕ). x % 2 ^ b) f
    ∙ subst (λ (t : ℕ). y / 2 ^ i % 2 ^ t % 2 ^ b ≡ y / 2 ^ i % 2 ^ b) m (mod-mod-pow (y / 2 ^ i) (32 - (i + 1) - b) b)

-- one turn, as it is seen from bit i on
turned : (b i l m : ℕ) → i + 1 + b ≤ 32 → (bit_and l m * 2 ^ 1) % 2 ^ 32 / 2 ^ (i + 1) % 2 ^ b ≡ bit_and (l / 2 ^ i % 2 ^ b) (m / 2 ^ i)
turned b i l m h =
    up_down b i (bit_and l m) h
    ∙ ap (λ (x : ℕ). x % 2 ^ b) (and_shr l m i)
    ∙ and_mod (l / 2 ^ i) (m / 2 ^ i) b
    ∙ and_low b (l / 2 ^ i % 2 ^ b) (m / 2 ^ i) (mod-lt (l / 2 ^ i) (pow_pos b))

-- a number with no bit below b has none below b - i once it is shifted down by i, and no bit j
-- below b
low_field : (b i l : ℕ) → i ≤ b → l % 2 ^ b ≡ 0 → l / 2 ^ i % 2 ^ (b - i) ≡ 0
low_field b i l h e =
    let n : b - i + i ≡ b = omega arith in
    subst (λ (t : ℕ). l % 2 ^ t ≡ 0 → l / 2 ^ i % 2 ^ (b - i) ≡ 0) n (λ z. sym (field l (b - i) i) ∙ ap (λ (x : ℕ). x / 2 ^ i) z ∙ zero-div (2 ^ i)) e

low_bit : (b j l : ℕ) → j < b → l % 2 ^ b ≡ 0 → l / 2 ^ j % 2 ≡ 0
low_bit b j l h e = sym (cut_bit l b j h) ∙ rw (e, zero-div (2 ^ j))

-- so the b bits from i on are not set where they lie below b
none_below : (b i l : ℕ) (p : ℕ → Bool) → i ≤ b → l / 2 ^ i % 2 ^ b ≡ number_of b p → l % 2 ^ b ≡ 0 → (j : ℕ) → i + j < b → p j ≡ false
none_below b i l p h e z j u =
    let n : i + (b - i) ≡ b = omega arith in
    let low : number_of b p % 2 ^ (b - i) ≡ 0 =
    ap (λ (x : ℕ). x % 2 ^ (b - i)) (sym e)
    ∙ subst (λ (t : ℕ). l / 2 ^ i % 2 ^ t % 2 ^ (b - i) ≡ l / 2 ^ i % 2 ^ (b - i)) n (mod-mod-pow (l / 2 ^ i) i (b - i))
    ∙ low_field b i l h z in
    by_test (p j)
    (λ t. let q : ◌≡◌ {A = ℕ} 1 0 = sym (rw t at (number_bit b j p (omega arith))) ∙ low_bit (b - i) j (number_of b p) (omega arith) low in absurd (omega arith))
    (λ t. t)

-- sixteen bits of the mask of an early end
pub low_sixteen : (l : ℕ) → bit_and l 0x8000ffff ≡ 0 → l % 2 ^ 16 ≡ 0
low_sixteen l e =
    sym (mod-mod-pow l 0 16)
    ∙ sym (and_mask (l % 2 ^ 16) 16)
    ∙ sym (and_mod l 0x8000ffff 16)
    ∙ ap (λ (x : ℕ). x % 2 ^ 16) e

-- the first i elements of operand 1 stand in operand 2 from j on
abbrev pub standing_to : ℕ → List ℕ → ℕ → List ℕ → ℕ → ℕ → ℕ → Bool
standing_to b x₁ l₁ x₂ l₂ i j = all_below (min i (b - j)) (follows x₁ l₁ x₂ l₂ j)

-- element i of operand 1 at t; past the block nothing is compared
abbrev matching : ℕ → List ℕ → List ℕ → ℕ → ℕ → ℕ → Bool
matching b x₁ x₂ l₂ i t = eqb (get_or x₂ t 0) (get_or x₁ i 0) && ltb t l₂ || not (ltb t b)

module _ (b : ℕ) (x₁ : List ℕ) (l₁ : ℕ) (x₂ : List ℕ) (l₂ : ℕ) (h : b ≤ 16) (h₁ : l₁ ≤ b) (h₂ : l₂ ≤ b) where
  pub ordered_start : (ones : ℕ) → ones ≡ number_of b (λ j. true) → ones ≡ number_of b (standing_to b x₁ l₁ x₂ l₂ 0)
  ordered_start ones o =
      o
      ∙ number_same b (λ j. true) (standing_to b x₁ l₁ x₂ l₂ 0) (λ j u. let e : min 0 (b - j) ≡ 0 = omega arith in rw e)

  module _ (i : ℕ) (u : i < l₁) where
    more : (j : ℕ) → (standing_to b x₁ l₁ x₂ l₂ i j && matching b x₁ x₂ l₂ i (i + j)) ≡ standing_to b x₁ l₁ x₂ l₂ (i + 1) j
    more j =
        by_order (i + j) b
        (λ v.
        let d : min i (b - j) ≡ i = omega arith in
        let e : min (i + 1) (b - j) ≡ suc i = omega arith in
        rw (d, e, lt-ltb (i + j) b v, add_comm i j, lt-ltb i l₁ u) (ap (λ (t : Bool). all_below i (follows x₁ l₁ x₂ l₂ j) && t) (ordered_bit (ltb (j + i) l₂) (eqb (get_or x₂ (j + i) 0) (get_or x₁ i 0)))))
        (λ v.
        let d : min (i + 1) (b - j) ≡ min i (b - j) = omega arith in
        rw (d, le-ltb (i + j) b v, or_true, and_true))

    -- the places of element i, with every bit from b on set
    matches : (s v past : ℕ) → s ≡ number_of b (λ t. eqb (get_or x₂ t 0) (get_or x₁ i 0)) → v ≡ number_of 16 (λ t. ltb t l₂) → past ≡ number_of 32 (λ t. not (ltb t b)) → bit_or (bit_and s v) past ≡ number_of 32 (matching b x₁ x₂ l₂ i)
    matches s v past d e g =
        let p : bit_and s v ≡ number_of 32 (λ t. eqb (get_or x₂ t 0) (get_or x₁ i 0) && ltb t l₂) =
        rw (d, first_cut b l₂ v h h₂ e) (number_both b (λ t. eqb (get_or x₂ t 0) (get_or x₁ i 0)) (λ t. ltb t l₂))
        ∙ sym (number_cut 32 b (λ t. eqb (get_or x₂ t 0) (get_or x₁ i 0) && ltb t l₂) (omega arith) (λ t w z. rw (le-ltb t l₂ (omega arith), and_false))) in
        rw (p, g) (number_or 32 (λ t. eqb (get_or x₂ t 0) (get_or x₁ i 0) && ltb t l₂) (λ t. not (ltb t b)))

    -- one element of operand 1 more
    pub ordered_more : (s v past l : ℕ) → s ≡ number_of b (λ t. eqb (get_or x₂ t 0) (get_or x₁ i 0)) → v ≡ number_of 16 (λ t. ltb t l₂) → past ≡ number_of 32 (λ t. not (ltb t b)) → l ≡ number_of b (standing_to b x₁ l₁ x₂ l₂ i) → bit_and l (bit_or (bit_and s v) past / 2 ^ i) ≡ number_of b (standing_to b x₁ l₁ x₂ l₂ (i + 1))
    ordered_more s v past l d e g k =
        let z : i + (32 - b - i + b) ≡ 32 = omega arith in
        let m : number_of 32 (matching b x₁ x₂ l₂ i) / 2 ^ i ≡ number_of (32 - b - i + b) (λ j. matching b x₁ x₂ l₂ i (i + j)) =
        subst (λ (n : ℕ). number_of n (matching b x₁ x₂ l₂ i) / 2 ^ i ≡ number_of (32 - b - i + b) (λ j. matching b x₁ x₂ l₂ i (i + j))) z (number_shift i (32 - b - i + b) (matching b x₁ x₂ l₂ i)) in
        rw (k, matches s v past d e g, m)
        (number_and b (32 - b - i) (standing_to b x₁ l₁ x₂ l₂ i) (λ j. matching b x₁ x₂ l₂ i (i + j))
        ∙ number_same b _ _ (λ j w. more j))

    -- the same of a number that is shifted
    pub ordered_turn : (s v past l : ℕ) → s ≡ number_of b (λ t. eqb (get_or x₂ t 0) (get_or x₁ i 0)) → v ≡ number_of 16 (λ t. ltb t l₂) → past ≡ number_of 32 (λ t. not (ltb t b)) → l / 2 ^ i % 2 ^ b ≡ number_of b (standing_to b x₁ l₁ x₂ l₂ i) → (bit_and l (bit_or (bit_and s v) past) * 2 ^ 1) % 2 ^ 32 / 2 ^ (i + 1) % 2 ^ b ≡ number_of b (standing_to b x₁ l₁ x₂ l₂ (i + 1))
    ordered_turn s v past l d e g k =
        turned b i l (bit_or (bit_and s v) past) (omega arith) ∙ ordered_more s v past (l / 2 ^ i % 2 ^ b) d e g k

  pub ordered_end : (i : ℕ) → l₁ ≤ i → number_of b (standing_to b x₁ l₁ x₂ l₂ i) ≡ number_of b (ordered_of b x₁ l₁ x₂ l₂)
  ordered_end i u =
      number_same b (standing_to b x₁ l₁ x₂ l₂ i) (ordered_of b x₁ l₁ x₂ l₂)
      (λ j w. sym (all_cut (b - j) (min i (b - j)) (follows x₁ l₁ x₂ l₂ j) (omega arith) (λ t y z. rw (le-ltb t l₁ (omega arith)))))

  -- where the first i stand only as far up that the others lie past the block, they decide
  pub ordered_settled : (i l : ℕ) → i ≤ b → l / 2 ^ i % 2 ^ b ≡ number_of b (standing_to b x₁ l₁ x₂ l₂ i) → l % 2 ^ b ≡ 0 → l / 2 ^ i % 2 ^ b ≡ number_of b (ordered_of b x₁ l₁ x₂ l₂)
  ordered_settled i l u e z =
      e
      ∙ number_same b (standing_to b x₁ l₁ x₂ l₂ i) (ordered_of b x₁ l₁ x₂ l₂)
      (λ j w. by_order (i + j) b
      (λ v. let f = none_below b i l (standing_to b x₁ l₁ x₂ l₂ i) u e z j v in
      f ∙ sym (all_less (follows x₁ l₁ x₂ l₂ j) (min i (b - j)) (b - j) (omega arith) f))
      (λ v. let m : min i (b - j) ≡ b - j = omega arith in rw m))

  -- where the first i stand nowhere, all stand nowhere
  pub ordered_none : (i l : ℕ) → l ≡ number_of b (standing_to b x₁ l₁ x₂ l₂ i) → l ≡ 0 → 0 ≡ number_of b (ordered_of b x₁ l₁ x₂ l₂)
  ordered_none i l e z =
      no_bits b
      ∙ number_same b (λ j. false) (ordered_of b x₁ l₁ x₂ l₂)
      (λ j w. sym (all_less (follows x₁ l₁ x₂ l₂ j) (min i (b - j)) (b - j) (omega arith) (number_zero b j (standing_to b x₁ l₁ x₂ l₂ i) w (sym e ∙ z))))

  -- the same of a number that is shifted
  pub ordered_stop : (i l : ℕ) → l / 2 ^ i % 2 ^ b ≡ number_of b (standing_to b x₁ l₁ x₂ l₂ i) → l ≡ 0 → 0 ≡ number_of b (ordered_of b x₁ l₁ x₂ l₂)
  ordered_stop i l e z = ordered_none i (l / 2 ^ i % 2 ^ b) e (rw (z, zero-div (2 ^ i)) (zero-mod (2 ^ b)))
