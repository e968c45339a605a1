-- The slowest search, made to order (document 02 [7]): the text and the needle that a call writes,
-- and what it refuses. Elements are numbers, in bytes and in words alike: 65 is `A`, 66 is `B`.
use Rattle.std.specs.Prelude.{ℕ, ◌-◌, ◌≡◌, Bool, cond, ◌&&◌, ◌||◌, List, [], ◌∷◌, ◌++◌, eqb, ltb, length, replicate, Result, Ok, Err, is_ok}
use Rattle.refusals.specs.declared.Refusal.{Refusal}
use Rattle.refusals.specs.declared.Refusal.TheVariants as refusal
use Rattle.blocks.specs.Blocks.{longest_text}
use Rattle.unit.specs.Operand.{count}
use Rattle.search.specs.Cursors.{longest_needle}

-- ---- what is written

abbrev pub letter_a : ℕ
letter_a = 65

abbrev pub letter_b : ℕ
letter_b = 66

-- n - 1 elements `A`, then `B`: the text of n elements, and the needle of as many
unfoldable pub worst : ℕ → List ℕ
worst n = replicate (n - 1) letter_a ++ (letter_b ∷ [])

-- ---- what is refused

-- sizes outside b ≤ m ≤ n, or above the limit of a text or of a needle
abbrev pub sizes_refused : Bool → ℕ → ℕ → Bool
sizes_refused words n m =
    ltb m (count words) || ltb n m || ltb longest_text n || ltb longest_needle m

-- What refuses these sizes with buffers of t and l elements: the sizes first, then the buffers.
abbrev pub case_refusal : Bool → ℕ → ℕ → ℕ → ℕ → Result (Unit {0}) Refusal
case_refusal words n m t l =
    cond (sizes_refused words n m) (Err refusal.Sizes)
    (cond (eqb t n && eqb l m) (Ok tt) (Err refusal.Lengths))

-- ---- the call

-- a buffer after the call: refused, as it was
abbrev pub buffer_after : Result (Unit {0}) Refusal → ℕ → List ℕ → List ℕ
buffer_after answer size buffer = cond (is_ok answer) (worst size) buffer

-- what a call with these two buffers answers, and what it leaves in them
pub record WorstCase (words : Bool) (n m : ℕ) (text needle text' needle' : List ℕ)
    (r : Result (Unit {0}) Refusal) : Type 0 where
  pub answer : r ≡ case_refusal words n m (length text) (length needle)
  pub text_after : text' ≡ buffer_after r n text
  pub needle_after : needle' ≡ buffer_after r m needle
