-- Worked cases of the slowest search, in both widths, with a check for each kind: searches and
-- refusals.
use Rattle.std.specs.Prelude.{ℕ, ◌+◌, Bool, ◌&&◌, [], ◌∷◌, T, eqb}
use Rattle.refusals.specs.Numbers.{status}
use Rattle.bits.specs.Bits.{least_below, greatest_below, tabulate, number_of}
use Rattle.blocks.specs.Blocks.{longest_text, operand_of, compare_index}
use Rattle.unit.specs.Control.{control_of}
use Rattle.unit.specs.Operand.{explicit_length, words_of, in_bytes, in_words}
use Rattle.unit.specs.Compare.{bool_res, int_res1, int_res2}
use Rattle.unit.specs.Output.{index_of, flags_of}
use Rattle.unit.specs.Calls.{PCMPESTRI}
use Rattle.unit.specs.Specimens.{all, same_list}
use Rattle.search.specs.Walk.{later, walk}
use Rattle.search.specs.Cursors.{fresh_cursor, longest_needle, refusal, next_match}
use Rattle.search.specs.Calls.{found, absent, said_by, cursor_after}
use Rattle.search.specs.Specimens.{same}
use Rattle.worst_case.specs.Cases.{worst, case_refusal}

-- ---- searches

-- Two next matches over the text of n and the needle of m find one match, at p, then say absent,
-- and have then taken k compares.
unfoldable pub takes : Bool → ℕ → ℕ → ℕ → ℕ → Bool
takes words n m p k =
    same (said_by words (worst n) (worst m) 2 (fresh_cursor n)) (found p ∷ absent ∷ [])
    && eqb (cursor_after words (worst n) (worst m) 2 (fresh_cursor n)).compares k

-- H1: `A` and then `B`, or `B` alone
unfoldable pub H1 : Bool
H1 = same_list (worst 4) (65 ∷ 65 ∷ 65 ∷ 66 ∷ []) && same_list (worst 1) (66 ∷ [])

-- H2: a needle of one piece, m = b: one compare a position
unfoldable pub H2 : Bool
H2 =
    takes in_bytes 16 16 0 1 && takes in_bytes 17 16 1 2 && takes in_words 8 8 0 1
    && takes in_words 9 8 1 2

-- H3: m = b + 1: the second piece is the `B` alone. The text of 18 bytes and the needle of 17 are
-- those of S5.
unfoldable pub H3 : Bool
H3 =
    takes in_bytes 17 17 0 2 && takes in_bytes 18 17 1 4 && takes in_words 9 9 0 2
    && takes in_words 10 9 1 4

-- H4: two whole pieces, m = 2b
unfoldable pub H4 : Bool
H4 =
    takes in_bytes 32 32 0 2 && takes in_bytes 33 32 1 4 && takes in_words 16 16 0 2
    && takes in_words 17 16 1 4

pub searches_hold : T (all (H1 ∷ H2 ∷ H3 ∷ H4 ∷ []))
unfolding least_below greatest_below tabulate number_of PCMPESTRI control_of explicit_length words_of flags_of index_of int_res2 int_res1 bool_res operand_of compare_index later walk refusal next_match worst takes H1 H2 H3 H4
searches_hold = tt

-- ---- refusals

-- what a call with buffers of just n and m elements answers
abbrev pub answers : Bool → ℕ → ℕ → ℕ → Bool
answers words n m number = eqb (status (case_refusal words n m n m)) number

-- the largest number that a caller can hand over
abbrev pub largest : ℕ
largest = 18446744073709551615

-- H5: b ≤ m ≤ n
unfoldable pub H5 : Bool
H5 =
    answers in_bytes 16 16 0 && answers in_bytes 16 15 36 && answers in_bytes 16 17 36
    && answers in_words 8 8 0 && answers in_words 8 7 36 && answers in_words 8 9 36
    && answers in_bytes 0 0 36 && answers in_bytes largest 16 36 && answers in_bytes 16 largest 36
    && answers in_bytes largest largest 36

-- H6: the limits
unfoldable pub H6 : Bool
H6 =
    answers in_bytes longest_text longest_needle 0 && answers in_bytes (longest_text + 1) 16 36
    && answers in_bytes longest_text (longest_needle + 1) 36 && answers in_words longest_text 8 0
    && answers in_words (longest_text + 1) longest_needle 36

-- H7: a buffer that is one shorter or one longer; and 36 before 37
unfoldable pub H7 : Bool
H7 =
    eqb (status (case_refusal in_bytes 17 16 17 16)) 0 && eqb (status (case_refusal in_bytes 17 16 16 16)) 37
    && eqb (status (case_refusal in_bytes 17 16 18 16)) 37 && eqb (status (case_refusal in_bytes 17 16 17 15)) 37
    && eqb (status (case_refusal in_bytes 17 16 17 17)) 37 && eqb (status (case_refusal in_bytes 17 16 16 17)) 37
    && eqb (status (case_refusal in_bytes 17 15 16 16)) 36 && eqb (status (case_refusal in_words 9 8 0 0)) 37

pub refusals_hold : T (all (H5 ∷ H6 ∷ H7 ∷ []))
unfolding H5 H6 H7
refusals_hold = tt
