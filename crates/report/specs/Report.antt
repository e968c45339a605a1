-- What the program `hits` prints for the bytes that it read (document 01, "The program `hits`"),
-- made from where the needle stands and from the walk's count. Bytes are numbers; 10 is a line
-- feed.
use Rattle.std.specs.Prelude.{ℕ, suc, ◌≡◌, cond, List, [], ◌∷◌, ◌++◌, eqb, ltb, length, take, drop, replicate, Result, Ok, Err}
use Rattle.refusals.specs.Numbers.{number_of}
use Rattle.refusals.specs.declared.Refusal.{Refusal}
use Rattle.refusals.specs.declared.Refusal.TheVariants.{Input, Feed, Needle}
use Rattle.unit.specs.Operand.{in_bytes}
use Rattle.decimal.specs.Decimal.{column}
use Rattle.search.specs.Positions.{positions}
use Rattle.search.specs.Walk.{walk_count}
use Rattle.search.specs.Cursors.{longest_needle}

-- ---- the input

-- how many bytes stand before the first line feed: all, where there is none
unfoldable pub feed_at : List ℕ → ℕ
feed_at [] = 0
feed_at (x ∷ xs) = cond (eqb x 10) 0 (suc (feed_at xs))

-- the needle is the bytes up to the first line feed, the text all after it
abbrev pub needle_of : List ℕ → List ℕ
needle_of input = take (feed_at input) input

abbrev pub text_of : List ℕ → List ℕ
text_of input = drop (suc (feed_at input)) input

-- the most bytes of an input
abbrev pub longest_input : ℕ
longest_input = 65536

-- Whether the program accepts an input, or why it refuses it. It tests 7, 6, 3, in this order.
unfoldable pub refusal_of : List ℕ → Result (Unit {0}) Refusal
refusal_of input =
    cond (ltb longest_input (length input)) (Err Input)
    (cond (eqb (feed_at input) (length input)) (Err Feed)
    (cond (ltb longest_needle (length (needle_of input))) (Err Needle) (Ok tt)))

-- ---- the lines

-- every line ends with a line feed
abbrev pub line : List ℕ → List ℕ
line columns = columns ++ (10 ∷ [])

-- a number in 8 columns on a line of its own
unfoldable pub number_line : ℕ → List ℕ
number_line n = line (column n 8)

-- a line for each match (document 01: hit)
unfoldable pub match_lines : List ℕ → List ℕ
match_lines [] = []
match_lines (p ∷ ps) = number_line p ++ match_lines ps

-- the number of matches in 8, the compares in 10
unfoldable pub totals_line : ℕ → ℕ → List ℕ
totals_line matches compares = line (column matches 8 ++ column compares 10)

-- the compares of the calls that find every match, and of the one after them, which says absent
abbrev pub compares_for : List ℕ → List ℕ → ℕ
compares_for text needle = walk_count in_bytes text needle (suc (length (positions text needle)))

-- the lines for a text and a needle
unfoldable pub listing : List ℕ → List ℕ → List ℕ
listing text needle =
    match_lines (positions text needle)
    ++ totals_line (length (positions text needle)) (compares_for text needle)

-- ---- what is printed

-- The line of a refusal's number. One of more than 8 digits, which no refusal has, leaves its
-- columns blank.
unfoldable pub refusal_line : ℕ → List ℕ
refusal_line n = cond (ltb n 100000000) (number_line n) (line (replicate 8 32))

-- accepted, the lines; refused, the refusal's number alone
abbrev pub printed : Result (Unit {0}) Refusal → List ℕ → List ℕ → List ℕ
printed (Ok u) text needle = listing text needle
printed (Err r) text needle = number_line (number_of r)

-- All that the program prints: what `report` and `refusal_line` give is that, by `printed_lines`
-- and `printed_refusal` in proofs/Listings.antt.
unfoldable pub report_of : List ℕ → List ℕ
report_of input = printed (refusal_of input) (text_of input) (needle_of input)

-- ---- the call

-- the lines that the call writes; refused, none
abbrev pub lines_unless : Result (Unit {0}) Refusal → List ℕ → List ℕ → List ℕ
lines_unless (Ok u) text needle = listing text needle
lines_unless (Err r) text needle = []

unfoldable pub lines_of : List ℕ → List ℕ
lines_of input = lines_unless (refusal_of input) (text_of input) (needle_of input)

-- how many bytes were written, or the refusal
abbrev pub told : Result (Unit {0}) Refusal → ℕ → Result ℕ Refusal
told (Ok u) n = Ok n
told (Err r) n = Err r

-- The call: how many bytes were written, or why it is refused; and the lines at the front of the
-- page, the rest of it as before.
pub record Reported (input before after : List ℕ) (r : Result ℕ Refusal) : Type 0 where
  pub answer : r ≡ told (refusal_of input) (length (lines_of input))
  pub page : after ≡ lines_of input ++ drop (length (lines_of input)) before

-- The longest report, and so the length of a page (`report_fits` in proofs/Listings.antt): an empty
-- needle in 65,535 bytes makes 65,536 lines of 9 bytes, and the totals take 19.
abbrev pub longest_report : ℕ
longest_report = 589843
