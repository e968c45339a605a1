-- How long the lines of a report are, and so the report. Assumes nothing.
use Prim.Native.Nat.{ℕ, suc, ◌*◌, ◌<◌}
use mathlib.Core.Path.{◌≡◌, refl}
use mathlib.Core.List.{List, [], ◌∷◌, ◌++◌, append_assoc, append-nil}
use lib.ListN.{length, get_or, take, length-append}
use lib.Seq.{take-suc}
use native.Mathlib.Omega.{arith}
use Rattle.decimal.proofs.Columns.{length_column}
use Rattle.report.specs.Report.{number_line, match_lines, totals_line}

abbrev Below : ℕ → List ℕ → Type 0
Below n ps = (i : ℕ) → i < length ps → get_or ps i 0 < n

-- ---- one line

pub length_number : (n : ℕ) → n < 100000000 → length (number_line n) ≡ 9
unfolding number_line
length_number n h = rw (length-append, length_column n 8 h (omega arith))

pub length_totals : (m k : ℕ) → m < 100000000 → k < 10000000000 → length (totals_line m k) ≡ 19
unfolding totals_line
length_totals m k h g = rw (length-append, length-append, length_column m 8 h (omega arith), length_column k 10 g (omega arith))

-- ---- the lines of the matches

lines_join : (xs ys : List ℕ) → match_lines (xs ++ ys) ≡ match_lines xs ++ match_lines ys
unfolding match_lines
lines_join [] ys = refl
lines_join (x ∷ xs) ys = rw (lines_join xs ys, append_assoc)

-- one match more
pub lines_more : (ps : List ℕ) (k : ℕ) → k < length ps → match_lines (take (suc k) ps) ≡ match_lines (take k ps) ++ number_line (get_or ps k 0)
unfolding match_lines
lines_more ps k h = rw (take-suc ps k 0 h, lines_join, append-nil)

pub length_lines : (ps : List ℕ) → Below 100000000 ps → length (match_lines ps) ≡ length ps * 9
unfolding match_lines
length_lines [] h = refl
length_lines (p ∷ ps) h = rw (length-append, length_number p (h 0 (omega arith)), length_lines ps (λ i l. h (suc i) (omega arith))) (omega arith)
