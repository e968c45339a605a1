-- A number in decimal, and the column that it is written in (document 01, "Runs, order and
-- columns", numbers 8 and 24). Each definition computes. Bytes are numbers: 48 to 57 are the digits
-- 0 to 9, and 32 is a space.
use Rattle.std.specs.Prelude.{ℕ, zero, suc, ◌+◌, ◌-◌, ◌*◌, ◌/◌, ◌%◌, ◌≤◌, ◌<◌, ◌≡◌, cond, ◌||◌, List, [], ◌∷◌, ◌++◌, eqb, ltb, length, get_or, drop, replicate, Result, Ok, Err, is_ok}
use Rattle.refusals.specs.declared.Refusal.{Refusal}
use Rattle.refusals.specs.declared.Refusal.TheVariants.{Width, Buffer}

-- no digits for 0, so that no zero leads. `digits_of` is handed on as a function, so that it runs
-- only where it is wanted
abbrev pub unless_zero : (ℕ → List ℕ) → ℕ → List ℕ
unless_zero digits_of zero = []
unless_zero digits_of (suc n) = digits_of (suc n)

-- the digits of n / 10, unless that is 0, and then the digit n % 10; at most `most` digits
unfoldable pub digits_within : ℕ → ℕ → List ℕ
digits_within zero n = []
digits_within (suc most) n = unless_zero (digits_within most) (n / 10) ++ ((48 + n % 10) ∷ [])

-- the decimal digits of n, the most significant first; n has at most n + 1 of them
unfoldable pub digits : ℕ → List ℕ
digits n = digits_within (suc n) n

-- n right-justified with spaces in w columns
unfoldable pub column : ℕ → ℕ → List ℕ
column n w = replicate (w - length (digits n)) 32 ++ digits n

-- a number of k digits in w columns of a buffer of `room` bytes is refused, by 8 for the width
-- before 24 for the buffer, or accepted
abbrev pub refusal_for : ℕ → ℕ → ℕ → Result (Unit {0}) Refusal
refusal_for k w room =
    cond (eqb w 0 || ltb 20 w || ltb w k) (Err Width) (cond (ltb room w) (Err Buffer) (Ok tt))

-- the same of the number itself
unfoldable pub refusal_of : ℕ → ℕ → ℕ → Result (Unit {0}) Refusal
refusal_of n w room = refusal_for (length (digits n)) w room

-- the buffer after the call: unchanged where it was refused; else the column at the front, and the
-- bytes after the width as they were
unfoldable pub written : ℕ → ℕ → List ℕ → List ℕ
written n w buffer =
    cond (is_ok (refusal_of n w (length buffer))) (column n w ++ drop w buffer) buffer

-- the call: what it answers, and the buffer that it leaves
pub record RightJustified (n w : ℕ) (before after : List ℕ) (r : Result (Unit {0}) Refusal) : Type 0 where
  pub answer : r ≡ refusal_of n w (length before)
  pub buffer : after ≡ written n w before

-- ---- what a numeral stands for: the digits of a number are its numeral (proofs/Digits.antt)

-- the number that a list of digits stands for, after digits that stand for n
abbrev pub value_after : ℕ → List ℕ → ℕ
value_after n [] = n
value_after n (d ∷ ds) = value_after (n * 10 + (d - 48)) ds

-- the number that a list of digits stands for
abbrev pub value : List ℕ → ℕ
value = value_after 0

-- a numeral: one byte or more, each of them a digit, and a leading zero only where it stands alone
pub record Numeral (ds : List ℕ) : Type 0 where
  pub some : 0 < length ds
  pub each : (i : ℕ) → i < length ds → (48 ≤ get_or ds i 0) × (get_or ds i 0 ≤ 57)
  pub lead : 1 < length ds → 49 ≤ get_or ds 0 0
