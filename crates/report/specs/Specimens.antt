-- The worked example of document 01, the smallest inputs and each refusal at its edge, in one list
-- that one computed check covers.
use Rattle.std.specs.Prelude.{ℕ, ◌+◌, Bool, ◌&&◌, List, [], ◌∷◌, ◌++◌, T, eqb, replicate}
use Rattle.refusals.specs.Numbers.{status}
use Rattle.bits.specs.Bits.{least_below, number_of, tabulate}
use Rattle.blocks.specs.Blocks.{operand_of, compare_index}
use Rattle.decimal.specs.Decimal.{digits, digits_within, column}
use Rattle.decimal.specs.Specimens.{all, same}
use Rattle.unit.specs.Control.{control_of}
use Rattle.unit.specs.Operand.{explicit_length, words_of}
use Rattle.unit.specs.Compare.{bool_res, int_res1, int_res2}
use Rattle.unit.specs.Output.{index_of, flags_of}
use Rattle.unit.specs.Calls.{PCMPESTRI}
use Rattle.search.specs.Positions.{positions}
use Rattle.search.specs.Walk.{later, walk, count_from, walk_count}
use Rattle.report.specs.Report.{feed_at, refusal_of, number_line, match_lines, totals_line, listing, report_of}

-- so many spaces, and then a digit
abbrev digit : ℕ → ℕ → List ℕ
digit spaces d = replicate spaces 32 ++ ((48 + d) ∷ [])

-- `AB`, a line feed, `ABZAB`: two matches, three compares
unfoldable pub example : Bool
example =
    same (report_of (65 ∷ 66 ∷ 10 ∷ 65 ∷ 66 ∷ 90 ∷ 65 ∷ 66 ∷ []))
    (digit 7 0 ++ (10 ∷ []) ++ digit 7 3 ++ (10 ∷ []) ++ digit 7 2 ++ digit 9 3 ++ (10 ∷ []))

-- an empty needle in an empty text, and in one byte; a needle and no text; a text that is the
-- needle, and one with a byte more, whose last walk takes a compare too
unfoldable pub smallest : Bool
smallest =
    same (report_of (10 ∷ [])) (digit 7 0 ++ (10 ∷ []) ++ digit 7 1 ++ digit 9 0 ++ (10 ∷ []))
    && same (report_of (10 ∷ 10 ∷ []))
    (digit 7 0 ++ (10 ∷ []) ++ digit 7 1 ++ (10 ∷ []) ++ digit 7 2 ++ digit 9 0 ++ (10 ∷ []))
    && same (report_of (65 ∷ 10 ∷ [])) (digit 7 0 ++ digit 9 0 ++ (10 ∷ []))
    && same (report_of (65 ∷ 10 ∷ 65 ∷ []))
    (digit 7 0 ++ (10 ∷ []) ++ digit 7 1 ++ digit 9 1 ++ (10 ∷ []))
    && same (report_of (65 ∷ 10 ∷ 65 ∷ 66 ∷ []))
    (digit 7 0 ++ (10 ∷ []) ++ digit 7 1 ++ digit 9 2 ++ (10 ∷ []))

-- 7, 6, 3, in this order, each at its edge
unfoldable pub refusals : Bool
refusals =
    eqb (status (refusal_of [])) 6 && eqb (status (refusal_of (65 ∷ []))) 6 && eqb (status (refusal_of (10 ∷ []))) 0
    && eqb (status (refusal_of (replicate 1024 65 ++ (10 ∷ [])))) 0
    && eqb (status (refusal_of (replicate 1025 65 ++ (10 ∷ [])))) 3
    && eqb (status (refusal_of (replicate 65536 65))) 6
    && eqb (status (refusal_of (replicate 65537 65))) 7
    && eqb (status (refusal_of (replicate 65535 65 ++ (10 ∷ [])))) 3
    && eqb (status (refusal_of (replicate 65536 65 ++ (10 ∷ [])))) 7
    && eqb (status (refusal_of (10 ∷ replicate 65535 65))) 0
    && eqb (status (refusal_of (10 ∷ replicate 65536 65))) 7
    && same (report_of []) (digit 7 6 ++ (10 ∷ []))

pub specimens_hold : T (all (example ∷ smallest ∷ refusals ∷ []))
unfolding least_below number_of tabulate operand_of compare_index digits digits_within column control_of explicit_length words_of bool_res int_res1 int_res2 index_of flags_of PCMPESTRI positions later walk count_from walk_count feed_at refusal_of number_line match_lines totals_line listing report_of example smallest refusals
specimens_hold = tt
