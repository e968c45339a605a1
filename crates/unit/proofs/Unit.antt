-- The number of each mode is the number of IntRes1, the polarity makes IntRes2 of it, and index,
-- mask and flags are read off that. Stated over the width, `w`: `count w` is b. Assumes nothing.
use Prim.Native.Nat.{ℕ, zero, suc, ◌+◌, ◌*◌, ◌/◌, ◌%◌, ◌^◌, ◌≤◌, ◌<◌, min}
use mathlib.Core.Path.{◌≡◌, refl, sym, ap, ◌∙◌}
use mathlib.Core.Bool.{Bool, true, false, cond, not, ◌&&◌}
use mathlib.Core.List.{List, [], ◌∷◌}
use native.Mathlib.Omega.{arith}
use lib.Dec.{eqb, ltb}
use lib.ListN.{length, get_or, replicate}
use lib.IntN.{ℤ, pos}
use lib.Signed.{le_z}
use lib.Bits.{bit_xor}
use mathlib.Core.Logic.{by_cases}
use native.Mathlib.Decide.{dec_lt}
use borrow.Author.Tests.{eq-eqb, ne_eqb, lt-ltb, le-ltb}
use Rattle.bits.specs.Bits.{any_below, least_below, number_of, tabulate}
use Rattle.bits.proofs.Below.{and_over_or, and_false, any_cut, any_same, number_same, number_none}
use Rattle.bits.proofs.Lists.{length_tabulate, tabulate_same}
use Rattle.bits.proofs.Numbers.{number_xor, number_set, least_read, greatest_read, every_bit}
use Rattle.unit.specs.declared.Control.{Control}
use Rattle.unit.specs.declared.Compared.{Compared}
use Rattle.unit.specs.declared.IndexAnswer.{IndexAnswer}
use Rattle.unit.specs.declared.MaskAnswer.{MaskAnswer}
use Rattle.unit.specs.declared.Aggregation.TheVariants.{EqualAny, Ranges, EqualEach, EqualOrdered}
use Rattle.unit.specs.declared.Polarity.{Polarity}
use Rattle.unit.specs.declared.Polarity.TheVariants.{Positive, Negative, MaskedPositive, MaskedNegative}
use Rattle.unit.specs.Control.{control_of}
use Rattle.unit.specs.Operand.{count, value_of, elements, explicit_length, implicit_length, word_at, words_of}
use Rattle.unit.specs.Calls.{explicit, implicit, PCMPESTRI}
use Rattle.unit.specs.Compare.{Operands, operands, override, compared, with_polarity, bool_res, int_res1, int_res2}
use Rattle.unit.specs.Output.{index_of, bit_mask, element_mask, mask_of, flags_of, index_answer, mask_answer, refused_index, refused_mask}
use Rattle.unit.specs.Modes.{any_of, between, ranges_of, each_of, ordered_of}
use Rattle.unit.specs.Readings.{compared_of, flags_read, index_read, element_read, mask_read}
use Rattle.unit.proofs.Modes.{first_cut}

pub count_most : (w : Bool) → count w ≤ 16
count_most true = omega arith
count_most false = omega arith

count_even : (w : Bool) (l : ℕ) → l ≤ count w → l / 2 ≤ count w / 2
count_even true l h = omega arith
count_even false l h = omega arith

-- ---- IntRes1, a mode at a time

any_valid : (v e : Bool) → override EqualAny true v e ≡ (e && v)
any_valid true true = refl
any_valid true false = refl
any_valid false true = refl
any_valid false false = refl

ranges_valid : (v d e : Bool) → (override Ranges true v d && override Ranges true v e) ≡ (d && e && v)
ranges_valid true true true = refl
ranges_valid true true false = refl
ranges_valid true false e = refl
ranges_valid false true true = refl
ranges_valid false true false = refl
ranges_valid false false e = refl

-- a test that every number of a search has in common
any_and : (n : ℕ) (p : ℕ → Bool) (v : Bool) → any_below n (λ i. p i && v) ≡ any_below n p && v
any_and zero p v = refl
any_and (suc n) p v = rw (any_and n p v) (and_over_or (any_below n p) (p n) v)

module _ (k : Control) (w : Bool) (e : k.words ≡ w) (x₁ : List ℕ) (l₁ : ℕ) (x₂ : List ℕ) (l₂ : ℕ) (h₁ : l₁ ≤ count w) where
  -- bit j of it
  pub any_bit : k.aggregation ≡ EqualAny → (j : ℕ) → any_of x₁ l₁ x₂ l₂ j ≡ int_res1 (operands k x₁ l₁ x₂ l₂) j
  unfolding int_res1 bool_res
  any_bit a j =
      rw (a, e)
      (sym
      (any_cut (count w) l₁ (λ i. override EqualAny (ltb i l₁) (ltb j l₂) (eqb (get_or x₂ j 0) (get_or x₁ i 0))) h₁ (λ i u v. rw (le-ltb i l₁ u))
      ∙ any_same l₁ _ (λ i. eqb (get_or x₂ j 0) (get_or x₁ i 0) && ltb j l₂) (λ i u. rw (lt-ltb i l₁ u) (any_valid (ltb j l₂) (eqb (get_or x₂ j 0) (get_or x₁ i 0))))
      ∙ any_and l₁ (λ i. eqb (get_or x₂ j 0) (get_or x₁ i 0)) (ltb j l₂)))

  pub any_is : k.aggregation ≡ EqualAny → number_of (count w) (any_of x₁ l₁ x₂ l₂) ≡ number_of (count w) (int_res1 (operands k x₁ l₁ x₂ l₂))
  any_is a = number_same (count w) (any_of x₁ l₁ x₂ l₂) (int_res1 (operands k x₁ l₁ x₂ l₂)) (λ j z. any_bit a j)

  -- the overridden comparison with the bounds 2i and 2i + 1
  abbrev pair : ℕ → ℕ → Bool
  pair j i =
      override Ranges (ltb (2 * i) l₁) (ltb j l₂) (compared Ranges (value_of w k.signed) (eqb (2 * i % 2) 0) (get_or x₂ j 0) (get_or x₁ (2 * i) 0))
      && override Ranges (ltb (2 * i + 1) l₁) (ltb j l₂) (compared Ranges (value_of w k.signed) (eqb ((2 * i + 1) % 2) 0) (get_or x₂ j 0) (get_or x₁ (2 * i + 1) 0))

  -- a lone lower bound, and what lies past operand 1, is no range
  pair_past : (j i : ℕ) → l₁ / 2 ≤ i → pair j i ≡ false
  pair_past j i u = rw (le-ltb (2 * i + 1) l₁ (omega arith), and_false)

  pair_valid : (j i : ℕ) → i < l₁ / 2 → pair j i ≡ (between (value_of w k.signed) (get_or x₁ (2 * i) 0) (get_or x₁ (2 * i + 1) 0) (get_or x₂ j 0) && ltb j l₂)
  pair_valid j i u =
      rw (lt-ltb (2 * i) l₁ (omega arith), lt-ltb (2 * i + 1) l₁ (omega arith), eq-eqb (2 * i % 2) 0 (omega arith), ne_eqb ((2 * i + 1) % 2) 0 (omega arith))
      (ranges_valid (ltb j l₂) (le_z (value_of w k.signed (get_or x₁ (2 * i) 0)) (value_of w k.signed (get_or x₂ j 0))) (le_z (value_of w k.signed (get_or x₂ j 0)) (value_of w k.signed (get_or x₁ (2 * i + 1) 0))))

  pub ranges_bit : k.aggregation ≡ Ranges → (j : ℕ) → ranges_of (value_of w k.signed) x₁ (l₁ / 2) x₂ l₂ j ≡ int_res1 (operands k x₁ l₁ x₂ l₂) j
  unfolding int_res1 bool_res
  ranges_bit a j =
      rw (a, e)
      (sym
      (any_cut (count w / 2) (l₁ / 2) (pair j) (count_even w l₁ h₁) (λ i u v. pair_past j i u)
      ∙ any_same (l₁ / 2) (pair j) (λ i. between (value_of w k.signed) (get_or x₁ (2 * i) 0) (get_or x₁ (2 * i + 1) 0) (get_or x₂ j 0) && ltb j l₂) (λ i u. pair_valid j i u)
      ∙ any_and (l₁ / 2) (λ i. between (value_of w k.signed) (get_or x₁ (2 * i) 0) (get_or x₁ (2 * i + 1) 0) (get_or x₂ j 0)) (ltb j l₂)))

  pub ranges_is : k.aggregation ≡ Ranges → number_of (count w) (ranges_of (value_of w k.signed) x₁ (l₁ / 2) x₂ l₂) ≡ number_of (count w) (int_res1 (operands k x₁ l₁ x₂ l₂))
  ranges_is a =
      number_same (count w) (ranges_of (value_of w k.signed) x₁ (l₁ / 2) x₂ l₂) (int_res1 (operands k x₁ l₁ x₂ l₂)) (λ j z. ranges_bit a j)

  pub each_is : k.aggregation ≡ EqualEach → number_of (count w) (each_of x₁ l₁ x₂ l₂) ≡ number_of (count w) (int_res1 (operands k x₁ l₁ x₂ l₂))
  unfolding int_res1 bool_res
  each_is a = number_same (count w) (each_of x₁ l₁ x₂ l₂) (int_res1 (operands k x₁ l₁ x₂ l₂)) (λ j u. rw a)

  pub ordered_is : k.aggregation ≡ EqualOrdered → number_of (count w) (ordered_of (count w) x₁ l₁ x₂ l₂) ≡ number_of (count w) (int_res1 (operands k x₁ l₁ x₂ l₂))
  unfolding int_res1 bool_res
  ordered_is a = number_same (count w) (ordered_of (count w) x₁ l₁ x₂ l₂) (int_res1 (operands k x₁ l₁ x₂ l₂)) (λ j u. rw (a, e))

-- ---- IntRes2

polarity_bit : (p : Polarity) (v x : Bool) → cond (with_polarity p v false) (not x) x ≡ with_polarity p v x
polarity_bit Positive v x = refl
polarity_bit Negative v x = refl
polarity_bit MaskedPositive v x = refl
polarity_bit MaskedNegative true x = refl
polarity_bit MaskedNegative false x = refl

as_is : (t : Bool) → t ≡ cond t true false
as_is true = refl
as_is false = refl

pub negated_all : (b l v : ℕ) → b ≤ 16 → v ≡ number_of 16 (λ j. ltb j b) → v ≡ number_of b (λ j. with_polarity Negative (ltb j l) false)
negated_all b l v h e = first_cut b b v h (omega arith) e ∙ every_bit b b (omega arith)

below_least : (j b l : ℕ) → j < b → ltb j (min b l) ≡ ltb j l
below_least j b l h = by_cases (dec_lt j l) (λ g. rw (lt-ltb j l g, lt-ltb j (min b l) (omega arith))) (λ n. rw (le-ltb j l (omega arith), le-ltb j (min b l) (omega arith)))

-- l may be above b: then every element is valid
pub negated_valid : (b l v : ℕ) → b ≤ 16 → v ≡ number_of 16 (λ j. ltb j (min b l)) → v ≡ number_of b (λ j. with_polarity MaskedNegative (ltb j l) false)
negated_valid b l v h e = first_cut b (min b l) v h (omega arith) e ∙ number_same b _ _ (λ j z. below_least j b l z ∙ as_is (ltb j l))

pub compared_is : (k : Control) (w : Bool) (x₁ : List ℕ) (l₁ : ℕ) (x₂ : List ℕ) (l₂ : ℕ) (g t : ℕ) → k.words ≡ w → g ≡ number_of (count w) (int_res1 (operands k x₁ l₁ x₂ l₂)) → t ≡ number_of (count w) (λ j. with_polarity k.polarity (ltb j l₂) false) → ◌≡◌ {A = Compared} (record { bits = bit_xor g t; length1 = l₁; length2 = l₂ }) (compared_of (operands k x₁ l₁ x₂ l₂))
unfolding int_res2
compared_is k w x₁ l₁ x₂ l₂ g t e d f =
    let o = operands k x₁ l₁ x₂ l₂ in
    let n : bit_xor g t ≡ number_of (count w) (int_res2 o) =
    rw (d, f)
    (number_xor (count w) (int_res1 o) (λ j. with_polarity k.polarity (ltb j l₂) false)
    ∙ number_same (count w) _ (int_res2 o) (λ j u. polarity_bit k.polarity (ltb j l₂) (int_res1 o j))) in
    let m : bit_xor g t ≡ number_of (count k.words) (int_res2 o) = n ∙ ap (λ (v : Bool). number_of (count v) (int_res2 o)) (sym e) in
    λ i. record { bits = m i; length1 = l₁; length2 = l₂ }

-- ---- index, mask and flags

not_not : (t : Bool) → not (not t) ≡ t
not_not true = refl
not_not false = refl

-- the element that byte i of a mask belongs to
pub element_below : (w : Bool) (i : ℕ) → i < 16 → cond w (i / 2) i < count w
element_below true i h = omega arith
element_below false i h = omega arith

odd_bit : (n : ℕ) (p : ℕ → Bool) → 0 < n → eqb (number_of n p % 2) 1 ≡ p 0
odd_bit n p h =
    let e : number_of n p / 2 ^ 0 ≡ number_of n p = omega arith in
    rw e at (number_set n 0 p h)

pub count_some : (w : Bool) → 0 < count w
count_some true = omega arith
count_some false = omega arith

module _ (o : Operands) where
  abbrev b : ℕ
  b = count o.control.words

  index_read_lem : index_read o.control.high b (number_of b (int_res2 o)) ≡ index_of o
  unfolding index_of
  index_read_lem =
      let m : b ≤ 32 = omega (arith, count_most o.control.words) in
      let g = greatest_read b (number_of b (int_res2 o)) (int_res2 o) m refl in
      let l = least_read b (number_of b (int_res2 o)) (int_res2 o) m refl in
      λ t. cond o.control.high (g t) (l t)

  flags_read_lem : flags_read b (compared_of o) ≡ flags_of o
  unfolding flags_of
  flags_read_lem =
      let c : not (eqb (number_of b (int_res2 o)) 0) ≡ any_below b (int_res2 o) =
      ap not (number_none b (int_res2 o)) ∙ not_not (any_below b (int_res2 o)) in
      let f : eqb (number_of b (int_res2 o) % 2) 1 ≡ int_res2 o 0 = odd_bit b (int_res2 o) (count_some o.control.words) in
      λ t.
      record { carry = c t; zero = ltb o.length₂ b; sign = ltb o.length₁ b; overflow = f t; auxiliary = false; parity = false }

  mask_read_lem : mask_read o.control.high o.control.words (number_of b (int_res2 o)) ≡ mask_of o
  unfolding mask_of bit_mask element_mask
  mask_read_lem =
      let w = o.control.words in
      let e : element_read w (number_of b (int_res2 o)) ≡ tabulate 16 (λ i. cond (int_res2 o (cond w (i / 2) i)) 255 0) =
      tabulate_same 16 _ (λ i. cond (int_res2 o (cond w (i / 2) i)) 255 0)
      (λ i u. ap (λ (t : Bool). cond t 255 0) (number_set b (cond w (i / 2) i) (int_res2 o) (element_below w i u))) in
      λ t.
      cond o.control.high (e t) ((number_of b (int_res2 o) % 256) ∷ (number_of b (int_res2 o) / 256 % 256) ∷ replicate 14 0)

index_answered : (o : Operands) (t : Compared) → t ≡ compared_of o → ◌≡◌ {A = IndexAnswer} (record { refusal = 0; index = index_read o.control.high (count o.control.words) t.bits; flags = flags_read (count o.control.words) t }) (index_answer o)
index_answered o t e =
    (λ i. record { refusal = 0; index = index_read o.control.high (count o.control.words) (e i).bits; flags = flags_read (count o.control.words) (e i) })
    ∙ (λ i. record { refusal = 0; index = index_read_lem o i; flags = flags_read_lem o i })

mask_answered : (o : Operands) (t : Compared) → t ≡ compared_of o → ◌≡◌ {A = MaskAnswer} (record { refusal = 0; mask = mask_read o.control.high o.control.words t.bits; flags = flags_read (count o.control.words) t }) (mask_answer o)
mask_answered o t e =
    (λ i. record { refusal = 0; mask = mask_read o.control.high o.control.words (e i).bits; flags = flags_read (count o.control.words) (e i) })
    ∙ (λ i. record { refusal = 0; mask = mask_read_lem o i; flags = flags_read_lem o i })

-- ---- effective lengths, and the refusal of a control

pub explicit_most : (b : ℕ) (z : ℤ) → explicit_length b z ≤ b
unfolding explicit_length
explicit_most b z = omega arith

-- a length that is not negative
pub cut_explicit : (b n k : ℕ) → k ≡ min b n → k ≡ explicit_length b (pos n)
unfolding explicit_length
cut_explicit b n k e = e

-- a length that was cut already
cut_again : (b n : ℕ) (z : ℤ) → n ≡ explicit_length b z → explicit_length b (pos n) ≡ explicit_length b z
unfolding explicit_length
cut_again b n z e = omega (arith, e)

pub explicit_again : (x₁ : List ℕ) (z₁ : ℤ) (x₂ : List ℕ) (z₂ : ℤ) (k : Control) (n₁ n₂ : ℕ) → n₁ ≡ explicit_length (count k.words) z₁ → n₂ ≡ explicit_length (count k.words) z₂ → explicit x₁ (pos n₁) x₂ (pos n₂) k ≡ explicit x₁ z₁ x₂ z₂ k
explicit_again x₁ z₁ x₂ z₂ k n₁ n₂ e₁ e₂ =
    λ t. operands k (elements k.words x₁) (cut_again (count k.words) n₁ z₁ e₁ t) (elements k.words x₂) (cut_again (count k.words) n₂ z₂ e₂ t)

pub words_count : (x : List ℕ) → length (words_of x) ≡ 8
unfolding words_of
words_count x = length_tabulate 8 (word_at x)

-- the first zero element
pub least_implicit : (x : List ℕ) → least_below (length x) (λ j. eqb (get_or x j 0) 0) ≡ implicit_length x
unfolding least_below
least_implicit [] = refl
least_implicit (y ∷ ys) = rw (least_implicit ys)

accepted : {X : Type 0} (a b : X) (c : ℕ) → c ≤ 127 → a ≡ cond (ltb c 128) a b
accepted a b c h = rw (lt-ltb c 128 (omega arith))

pub refused : {X : Type 0} (a b : X) (c : ℕ) → 127 < c → b ≡ cond (ltb c 128) a b
refused a b c h = rw (le-ltb c 128 (omega arith))

-- what an accepted call answers, f giving the operands for a control
module _ (f : Control → Operands) (c : ℕ) (k : Control) (t : Compared) (kept : (f k).control ≡ k) (h : c ≤ 127) (d : k ≡ control_of c) (e : t ≡ compared_of (f k)) where
  pub index_called : (r : IndexAnswer) → r ≡ record { refusal = 0; index = index_read k.high (count k.words) t.bits; flags = flags_read (count k.words) t } → r ≡ cond (ltb c 128) (index_answer (f (control_of c))) refused_index
  index_called r q =
      q
      ∙ ap (λ (j : Control). record { refusal = 0; index = index_read j.high (count j.words) t.bits; flags = flags_read (count j.words) t }) (sym kept)
      ∙ index_answered (f k) t e
      ∙ ap (λ (j : Control). index_answer (f j)) d
      ∙ accepted (index_answer (f (control_of c))) refused_index c h

  pub mask_called : (r : MaskAnswer) → r ≡ record { refusal = 0; mask = mask_read k.high k.words t.bits; flags = flags_read (count k.words) t } → r ≡ cond (ltb c 128) (mask_answer (f (control_of c))) refused_mask
  mask_called r q =
      q
      ∙ ap (λ (j : Control). record { refusal = 0; mask = mask_read j.high j.words t.bits; flags = flags_read (count j.words) t }) (sym kept)
      ∙ mask_answered (f k) t e
      ∙ ap (λ (j : Control). mask_answer (f j)) d
      ∙ accepted (mask_answer (f (control_of c))) refused_mask c h

-- ---- the index at a fixed control: 0Ch and 0Dh, equal ordered; 18h and 19h, equal each negated

module _ (y₁ : List ℕ) (z₁ : ℤ) (y₂ : List ℕ) (z₂ : ℤ) (l₁ l₂ n : ℕ) where
  -- from the least place where operand 1 stands in operand 2
  pub ordered_index : (w : Bool) → l₁ ≡ explicit_length (count w) z₁ → l₂ ≡ explicit_length (count w) z₂ → n ≡ least_below (count w) (ordered_of (count w) (elements w y₁) l₁ (elements w y₂) l₂) → n ≡ (PCMPESTRI y₁ z₁ y₂ z₂ (cond w 0x0D 0x0C)).index
  unfolding PCMPESTRI control_of index_of int_res2 int_res1 bool_res
  ordered_index true e₁ e₂ d = d ∙ (λ t. least_below 8 (ordered_of 8 (words_of y₁) (e₁ t) (words_of y₂) (e₂ t)))
  ordered_index false e₁ e₂ d = d ∙ (λ t. least_below 16 (ordered_of 16 y₁ (e₁ t) y₂ (e₂ t)))

  -- from the least place where the operands differ
  pub differ_index : (w : Bool) → l₁ ≡ explicit_length (count w) z₁ → l₂ ≡ explicit_length (count w) z₂ → n ≡ least_below (count w) (λ j. not (each_of (elements w y₁) l₁ (elements w y₂) l₂ j)) → n ≡ (PCMPESTRI y₁ z₁ y₂ z₂ (cond w 0x19 0x18)).index
  unfolding PCMPESTRI control_of index_of int_res2 int_res1 bool_res
  differ_index true e₁ e₂ d = d ∙ (λ t. least_below 8 (λ j. not (each_of (words_of y₁) (e₁ t) (words_of y₂) (e₂ t) j)))
  differ_index false e₁ e₂ d = d ∙ (λ t. least_below 16 (λ j. not (each_of y₁ (e₁ t) y₂ (e₂ t) j)))

-- ---- the operands of a call

pub explicit_is : (k : Control) (w : Bool) (y₁ : List ℕ) (z₁ : ℤ) (y₂ : List ℕ) (z₂ : ℤ) (x₁ : List ℕ) (l₁ : ℕ) (x₂ : List ℕ) (l₂ : ℕ) (t : Compared) → k.words ≡ w → x₁ ≡ elements w y₁ → l₁ ≡ explicit_length (count w) z₁ → x₂ ≡ elements w y₂ → l₂ ≡ explicit_length (count w) z₂ → t ≡ compared_of (operands k x₁ l₁ x₂ l₂) → t ≡ compared_of (explicit y₁ z₁ y₂ z₂ k)
explicit_is k w y₁ z₁ y₂ z₂ x₁ l₁ x₂ l₂ t e p₁ q₁ p₂ q₂ d =
    d
    ∙ (λ i. compared_of (operands k (p₁ i) (q₁ i) (p₂ i) (q₂ i)))
    ∙ ap (λ (v : Bool). compared_of (operands k (elements v y₁) (explicit_length (count v) z₁) (elements v y₂) (explicit_length (count v) z₂))) (sym e)

pub implicit_is : (k : Control) (w : Bool) (y₁ y₂ : List ℕ) (x₁ : List ℕ) (l₁ : ℕ) (x₂ : List ℕ) (l₂ : ℕ) (t : Compared) → k.words ≡ w → x₁ ≡ elements w y₁ → length x₁ ≡ count w → l₁ ≡ least_below (count w) (λ j. eqb (get_or x₁ j 0) 0) → x₂ ≡ elements w y₂ → length x₂ ≡ count w → l₂ ≡ least_below (count w) (λ j. eqb (get_or x₂ j 0) 0) → t ≡ compared_of (operands k x₁ l₁ x₂ l₂) → t ≡ compared_of (implicit y₁ y₂ k)
implicit_is k w y₁ y₂ x₁ l₁ x₂ l₂ t e p₁ h₁ q₁ p₂ h₂ q₂ d =
    let r₁ : l₁ ≡ implicit_length (elements w y₁) = q₁ ∙ rw h₁ at (least_implicit x₁) ∙ ap implicit_length p₁ in
    let r₂ : l₂ ≡ implicit_length (elements w y₂) = q₂ ∙ rw h₂ at (least_implicit x₂) ∙ ap implicit_length p₂ in
    d
    ∙ (λ i. compared_of (operands k (p₁ i) (r₁ i) (p₂ i) (r₂ i)))
    ∙ ap (λ (v : Bool). compared_of (operands k (elements v y₁) (implicit_length (elements v y₁)) (elements v y₂) (implicit_length (elements v y₂)))) (sym e)
