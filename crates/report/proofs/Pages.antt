-- What the stores of a report make of a page. Assumes nothing.
use Prim.Native.Nat.{ℕ, ◌-◌, ◌≤◌, ◌<◌}
use mathlib.Core.Path.{◌≡◌, ap, ◌∙◌}
use mathlib.Core.List.{List, ◌++◌, append_assoc, append-nil}
use lib.ListN.{length, take, drop, set, replicate, length-append, length-drop, length-take}
use lib.Seq.{drop-drop, take_at, drop_at}
use mathlib.Core.Logic.{by_cases}
use native.Mathlib.Decide.{dec_lt}
use native.Mathlib.Omega.{arith}
use borrow.Author.Tests.{lt-ltb, le-ltb}
use Rattle.std.proofs.lemmas.List.{take_rest}
use Rattle.refusals.specs.declared.Refusal.TheVariants.{Width}
use Rattle.decimal.specs.Decimal.{column, written}
use Rattle.decimal.proofs.Columns.{length_column, refuses, writes, written_err}
use Rattle.decimal.proofs.Pages.{byte_put, past_tail}
use Rattle.report.specs.Report.{number_line, refusal_line, totals_line}

pub number_put : (n : ℕ) (b : List ℕ) → n < 100000000 → 9 ≤ length b → set (written n 8 b) 8 10 ≡ number_line n ++ drop 9 b
unfolding number_line
number_put n b h g = rw (writes n 8 b h (omega arith) (omega arith) (omega arith)) (byte_put (column n 8) b 8 10 (length_column n 8 h (omega arith)) (omega arith))

-- the room that is left after the matches' columns
pub totals_room : (m : ℕ) (b c : List ℕ) → c ≡ written m 8 b → m < 100000000 → 19 ≤ length b → 10 ≤ length (take (length c - 8) (drop 8 c))
totals_room m b c e h room =
    omega (arith, length-take (length c - 8) (drop 8 c), length-drop 8 c, ap length (e ∙ writes m 8 b h (omega arith) (omega arith) (omega arith)), length-append (column m 8) (drop 8 b), length_column m 8 h (omega arith), length-drop 8 b)

-- the totals, in the columns after the matches' and then the line feed; `b` is the page before, `c`
-- with the matches written
module _ (m k : ℕ) (b c : List ℕ) (e : c ≡ written m 8 b) (h : m < 100000000) (g : k < 10000000000) (room : 19 ≤ length b) where
  front : c ≡ column m 8 ++ drop 8 b
  front = e ∙ writes m 8 b h (omega arith) (omega arith) (omega arith)

  rest : drop 8 c ≡ drop 8 b
  rest = ap (drop 8) front ∙ drop_at (column m 8) (drop 8 b) 8 (length_column m 8 h (omega arith))

  pub compares_written : written k 10 (take (length c - 8) (drop 8 c)) ≡ column k 10 ++ drop 18 b
  compares_written =
      let r : 10 ≤ length (drop 8 b) = rw length-drop (omega arith) in
      rw (take_rest c 8, rest, writes k 10 (drop 8 b) g (omega arith) (omega arith) r, drop-drop 10 8 b)

  pub totals_put : (d : List ℕ) → d ≡ written k 10 (take (length c - 8) (drop 8 c))
      → set (take 8 c ++ (d ++ drop (length c - 8) (drop 8 c))) 18 10 ≡ totals_line m k ++ drop 19 b
  unfolding totals_line
  totals_put d f =
      let l : length (column m 8 ++ column k 10) ≡ 18 = rw (length-append, length_column m 8 h (omega arith), length_column k 10 g (omega arith)) in
      let t : take 8 c ≡ column m 8 = ap (take 8) front ∙ take_at (column m 8) (drop 8 b) 8 (length_column m 8 h (omega arith)) in
      rw (t, f, compares_written, past_tail c 8, append-nil, ← append_assoc (column m 8) (column k 10) (drop 18 b)) (byte_put (column m 8 ++ column k 10) b 18 10 l (omega arith))

-- ---- the line of a refusal, over a line of spaces

pub refusal_put : (n : ℕ) → set (written n 8 (replicate 9 32)) 8 10 ≡ refusal_line n
unfolding refusal_line
refusal_put n =
    by_cases (dec_lt n 100000000)
    (λ h. number_put n (replicate 9 32) h (omega arith) ∙ rw (lt-ltb n 100000000 h, append-nil))
    (λ h. rw (written_err n 8 (replicate 9 32) Width (refuses n 8 9 (omega arith)), le-ltb n 100000000 (omega arith)))
