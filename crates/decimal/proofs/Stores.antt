-- What the stores of `put_digits` make of its places. Assumes nothing.
use Prim.Native.Nat.{ℕ, suc, ◌+◌, ◌-◌, ◌/◌, ◌%◌, ◌≤◌, ◌<◌}
use mathlib.Core.Path.{◌≡◌, ◌∙◌}
use mathlib.Core.List.{List, ◌∷◌, ◌++◌, append_assoc, append-nil}
use native.Mathlib.Omega.{arith}
use lib.ListN.{length, take, drop, set, length-append, length-set}
use lib.Seq.{drop-cons, drop-length, drop-set-lt, get_or-set_same, set_split, take-set-le}
use Rattle.decimal.specs.Decimal.{digits}
use Rattle.decimal.proofs.Digits.{digits_one, digits_more}

-- a list with the digits of n put so that they end before `at`
abbrev pub placed : ℕ → ℕ → List ℕ → List ℕ
placed n at b = take (at - length (digits n)) b ++ (digits n ++ drop at b)

-- what a loop over the places from the last keeps, with i places left: the digits of `rest` fit
-- them, and put there they make of the places b what those of n make of the places a
pub record Pending (n : ℕ) (a : List ℕ) (i rest : ℕ) (b : List ℕ) : Type 0 where
  pub fits : length (digits rest) ≤ i
  pub whole : placed rest i b ≡ placed n (length a) a

drop_set : (b : List ℕ) (i d : ℕ) → i < length b → drop i (set b i d) ≡ d ∷ drop (suc i) b
drop_set b i d h =
    rw (drop-cons (set b i d) i 0 (rw length-set h), get_or-set_same b i d 0 h, drop-set-lt (suc i) b i d (omega arith))

-- the last digit is put; the others follow
pub placed_more : (n at i : ℕ) (b : List ℕ) → at ≡ suc i → 10 ≤ n → length (digits n) ≤ at → at ≤ length b → placed (n / 10) i (set b i (48 + n % 10)) ≡ placed n at b
placed_more n at i b e h f g =
    let front = digits (n / 10) in
    let f' : length front ≤ i = omega (arith, rw (digits_more n h, length-append) at f) in
    let q : suc i - (length front + 1) ≡ i - length front = omega arith in
    rw (take-set-le (i - length front) b i (48 + n % 10) (omega arith), drop_set b i (48 + n % 10) (omega arith), e, digits_more n h, length-append, append_assoc, q)

-- the one digit is put
pub placed_one : (n at i : ℕ) (b : List ℕ) → at ≡ suc i → n < 10 → at ≤ length b → set b i (48 + n) ≡ placed n at b
placed_one n at i b e h g =
    let q : suc i - 1 ≡ i = omega arith in
    rw (set_split b i (48 + n) (omega arith), e, digits_one n h, q)

module _ (n i rest d : ℕ) (a b : List ℕ) (p : 0 < i) (h : i ≤ length b) (q : d ≡ 48 + rest % 10) (l : Pending n a i rest b) where
  -- a digit is stored, and others are left
  pub pending_less : 0 < rest / 10 → Pending n a (i - 1) (rest / 10) (set b (i - 1) d)
  pending_less m =
      let g : 10 ≤ rest = omega arith in
      let f : length (digits (rest / 10)) + 1 ≤ i = rw (digits_more rest g, length-append) at l.fits in
      record {
        fits = omega arith;
        whole = rw q (placed_more rest i (i - 1) b (omega arith) g l.fits h ∙ l.whole);
      }

  -- the first digit is stored
  pub pending_none : rest / 10 ≡ 0 → set b (i - 1) d ≡ take (length a - length (digits n)) a ++ digits n
  pending_none m =
      let r : rest % 10 ≡ rest = omega arith in
      rw (q, r) (placed_one rest i (i - 1) b (omega arith) (omega arith) h ∙ l.whole ∙ rw (drop-length a, append-nil))
