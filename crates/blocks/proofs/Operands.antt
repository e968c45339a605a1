-- How a loop fills an operand over zeros: after k stores its first k bytes are there, and past a
-- part's end every byte is zero. Assumes nothing.
use Prim.Native.Nat.{ℕ, zero, suc, ◌+◌, ◌*◌, ◌/◌, ◌%◌, ◌^◌, ◌≤◌, ◌<◌, min}
use mathlib.Core.Path.{◌≡◌, refl, sym, ap, ◌∙◌}
use mathlib.Core.Bool.{Bool, true, false, cond}
use mathlib.Core.List.{List}
use lib.Dec.{eqb, ltb}
use Rattle.std.specs.Int.{to_le_bytes, w16}
use lib.ListN.{length, get_or, set, replicate, length-set, get_or-eq_default}
use lib.Seq.{ext_get_or, get_or-set_same, get_or-set_other}
use native.Mathlib.Omega.{arith}
use native.Mathlib.Numerals.{add-one}
use borrow.Author.Tests.{lt-ltb, le-ltb, eq-eqb, ne_eqb, eqb-true, eqb-false}
use Rattle.unit.specs.Operand.{in_bytes, in_words}
use Rattle.bits.specs.Bits.{tabulate}
use Rattle.bits.proofs.Below.{by_test, by_order}
use Rattle.bits.proofs.Lists.{length_tabulate, get_or_tabulate, tabulate_same}
use Rattle.blocks.specs.Blocks.{operand_byte, operand_of, fill_length, stores}

-- the first k bytes, and zero
abbrev pub up_to : (ℕ → ℕ) → ℕ → ℕ → ℕ
up_to f k j = cond (ltb j k) (f j) 0

module _ (f : ℕ → ℕ) where
  one_more : (k j : ℕ) → (j ≡ k → ⊥) → up_to f k j ≡ up_to f (k + 1) j
  one_more k j h =
      by_order j k (λ g. rw (lt-ltb j k g, lt-ltb j (k + 1) (omega arith))) (λ g. rw (le-ltb j k g, le-ltb j (k + 1) (below g)))
    where
      below : k ≤ j → k + 1 ≤ j
      below g = by_order k j (λ l. omega arith) (λ l. absurd (h (omega arith)))

  -- a store of the next byte
  pub stored : (a : List ℕ) (k v : ℕ) → k < 16 → a ≡ tabulate 16 (up_to f k) → v ≡ f k → set a k v ≡ tabulate 16 (up_to f (k + 1))
  stored a k v h e q =
      rw (e, q)
      (ext_get_or 0 (set (tabulate 16 (up_to f k)) k (f k)) (tabulate 16 (up_to f (k + 1)))
      (length-set (tabulate 16 (up_to f k)) k (f k) ∙ length_tabulate 16 (up_to f k) ∙ sym (length_tabulate 16 (up_to f (k + 1))))
      (λ j g. let s : j < 16 = rw (length-set, length_tabulate) at g in
      by_test (eqb j k)
      (λ t. let same : j ≡ k = eqb-true j k t in
      rw same
      (get_or-set_same (tabulate 16 (up_to f k)) k (f k) 0 (rw length_tabulate h)
      ∙ sym (get_or_tabulate 16 k (up_to f (k + 1)) 0 h ∙ rw (lt-ltb k (k + 1) (omega arith)))))
      (λ t. get_or-set_other (tabulate 16 (up_to f k)) k j (f k) 0 (eqb-false j k t)
      ∙ get_or_tabulate 16 j (up_to f k) 0 s
      ∙ one_more k j (eqb-false j k t)
      ∙ sym (get_or_tabulate 16 j (up_to f (k + 1)) 0 s))))

  -- all that are not zero are stored
  pub all_stored : (a : List ℕ) (k : ℕ) → a ≡ tabulate 16 (up_to f k) → ((j : ℕ) → k ≤ j → j < 16 → f j ≡ 0) → a ≡ tabulate 16 f
  all_stored a k e z =
      e ∙ tabulate_same 16 (up_to f k) f
      (λ j h. by_order j k (λ g. rw (lt-ltb j k g)) (λ g. rw (le-ltb j k g) (sym (z j g h))))

  -- stores over zeros
  pub stores_zeros : (k : ℕ) → k ≤ 16 → stores f k (replicate 16 0) ≡ tabulate 16 (up_to f k)
  unfolding tabulate
  stores_zeros zero h = refl
  stores_zeros (suc k) h =
      stored (stores f k (replicate 16 0)) k (f k) (omega arith) (stores_zeros k (omega arith)) refl
      ∙ ap (λ (n : ℕ). tabulate 16 (up_to f n)) (add-one k)

-- past the part's end
pub past_bytes : (x : List ℕ) (j : ℕ) → length x ≤ j → operand_byte in_bytes x j ≡ 0
past_bytes x j h = get_or-eq_default x 0 h

pub past_words : (x : List ℕ) (j : ℕ) → 2 * length x ≤ j → operand_byte in_words x j ≡ 0
past_words x j h =
    rw (get_or-eq_default x 0 (half h)) (either (eqb (j % 2) 0))
  where
    half : 2 * length x ≤ j → length x ≤ j / 2
    half g = omega arith

    either : (t : Bool) → cond t (0 % 256) (0 / 256) ≡ 0
    either true = refl
    either false = refl

-- the two bytes of word i
pub low_byte : (x : List ℕ) (i : ℕ) → get_or x i 0 % 256 ≡ operand_byte in_words x (2 * i)
low_byte x i =
    let even : 2 * i % 2 ≡ 0 = omega arith in
    let half : 2 * i / 2 ≡ i = omega arith in
    rw (eq-eqb (2 * i % 2) 0 even, half)

pub high_byte : (x : List ℕ) (i : ℕ) → get_or x i 0 / 256 ≡ operand_byte in_words x (2 * i + 1)
high_byte x i =
    let half : (2 * i + 1) / 2 ≡ i = omega arith in
    rw (ne_eqb ((2 * i + 1) % 2) 0 (λ e. omega arith), half)

-- the two bytes of a word more
pub stores_more : (x a : List ℕ) (i l h : ℕ) → l ≡ get_or x i 0 % 256 → h ≡ get_or x i 0 / 256 → set (set (stores (operand_byte in_words x) (2 * i) a) (2 * i) l) (2 * i + 1) h ≡ stores (operand_byte in_words x) (2 * (i + 1)) a
stores_more x a i l h p q =
    let f = operand_byte in_words x in
    let next : 2 * (i + 1) ≡ suc (suc (2 * i)) = omega arith in
    let here : 2 * i + 1 ≡ suc (2 * i) = omega arith in
    rw (next, p ∙ low_byte x i, q ∙ high_byte x i, here) refl

-- zeros over which a part is written are its operand
pub filled_zeros : (words : Bool) (x a : List ℕ) (n : ℕ) → n ≡ length x → a ≡ stores (operand_byte words x) (fill_length words n) (replicate 16 0) → a ≡ operand_of words x
unfolding operand_of
filled_zeros false x a n h e =
    let k = min n 16 in
    all_stored (operand_byte in_bytes x) a k (e ∙ stores_zeros (operand_byte in_bytes x) k (omega arith)) (λ j u v. past_bytes x j (omega arith))
filled_zeros true x a n h e =
    let k = 2 * min n 8 in
    all_stored (operand_byte in_words x) a k (e ∙ stores_zeros (operand_byte in_words x) k (omega arith)) (λ j u v. past_words x j (omega arith))

-- the two bytes of a word, low byte first
module _ (n : ℕ) (b : List ℕ) (h : n < 2 ^ 16) (e : b ≡ to_le_bytes w16 n) where
  pub of_low : get_or b 0 0 ≡ n % 256
  of_low = rw e refl

  pub of_high : get_or b 1 0 ≡ n / 256
  of_high = rw e (let q : n / 256 % 256 ≡ n / 256 = omega arith in q)
