-- Leading runs (document 01, "Runs, order and columns"): the longest front of a text whose elements
-- all belong to a set, or to one of some ranges. `words` is the width; b is `count words`.
use Rattle.std.specs.Prelude.{ℕ, ◌+◌, ◌*◌, ◌/◌, ◌%◌, ◌≤◌, ◌<◌, ◌≡◌, Bool, true, false, cond, not, ◌&&◌, List, [], eqb, ltb, length, get_or, take, ℤ, Result, Ok, Err, is_ok}
use Rattle.std.specs.Int.Signed.{le_z}
use Rattle.bits.specs.Bits.{any_below, least_below}
use Rattle.unit.specs.Operand.{count, value_of}
use Rattle.refusals.specs.declared.Refusal.{Refusal}
use Rattle.refusals.specs.declared.Refusal.TheVariants as refusal
use Rattle.blocks.specs.Blocks.{longest_text}

-- x is an element of the set
abbrev pub in_set : List ℕ → ℕ → Bool
in_set set x = any_below (length set) (λ i. eqb x (get_or set i 0))

-- x lies in one of the ranges that the bounds give in pairs, low then high, `value` being what an
-- element stands for
abbrev pub in_ranges : (ℕ → ℤ) → List ℕ → ℕ → Bool
in_ranges value bounds x =
    any_below (length bounds / 2)
    (λ i. le_z (value (get_or bounds (2 * i) 0)) (value x)
    && le_z (value x) (value (get_or bounds (2 * i + 1) 0)))

-- the first element that does not belong, or the text's end
unfoldable pub span_length : (ℕ → Bool) → List ℕ → ℕ
span_length belongs text = least_below (length text) (λ j. not (belongs (get_or text j 0)))

-- the front up to there
abbrev pub span : (ℕ → Bool) → List ℕ → List ℕ
span belongs text = take (span_length belongs text) text

-- The part s is the longest front of the text whose elements all belong. proofs/Fronts.antt shows
-- this of every span.
pub record LongestFront (belongs : ℕ → Bool) (text s : List ℕ) : Type 0 where
  pub front : s ≡ take (length s) text
  pub all_belong : (j : ℕ) → j < length s → belongs (get_or text j 0) ≡ true
  pub next_does_not : length s < length text → belongs (get_or text (length s) 0) ≡ false
  pub none_longer : (k : ℕ) → k ≤ length text → ((j : ℕ) → j < k → belongs (get_or text j 0) ≡ true)
      → k ≤ length s

-- ---- the calls

-- what refuses a text of n elements with a set, or with a list of bounds, of m
abbrev pub set_refusal : Bool → ℕ → ℕ → Result (Unit {0}) Refusal
set_refusal words n m =
    cond (ltb longest_text n) (Err refusal.Text) (cond (ltb (count words) m) (Err refusal.List) (Ok tt))

abbrev pub bounds_refusal : Bool → ℕ → ℕ → Result (Unit {0}) Refusal
bounds_refusal words n m =
    cond (ltb longest_text n) (Err refusal.Text)
    (cond (ltb (count words) m) (Err refusal.List) (cond (eqb (m % 2) 1) (Err refusal.Odd) (Ok tt)))

-- what the calls give back: refused, the empty front
abbrev pub set_span : Bool → List ℕ → List ℕ → List ℕ
set_span words text set =
    cond (is_ok (set_refusal words (length text) (length set))) (span (in_set set) text) []

abbrev pub range_span : Bool → Bool → List ℕ → List ℕ → List ℕ
range_span words signed text bounds =
    cond (is_ok (bounds_refusal words (length text) (length bounds)))
    (span (in_ranges (value_of words signed) bounds) text) []
