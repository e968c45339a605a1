-- The lines for a text and a needle: how long they are, and that they are put at the front of a
-- page. No report is longer than `longest_report`. Assumes nothing.
use Prim.Native.Nat.{ℕ, suc, ◌+◌, ◌-◌, ◌*◌, ◌/◌, ◌≤◌, ◌<◌}
use mathlib.Core.Path.{◌≡◌, refl, sym, ap, subst, ◌∙◌}
use mathlib.Core.Bool.{false}
use mathlib.Core.List.{List, [], ◌++◌}
use mathlib.Core.Logic.{by_cases}
use lib.Dec.{ltb}
use lib.ListN.{length, take, drop, length-append, length-drop}
use lib.Seq.{take_at}
use native.Mathlib.Decide.{dec_lt, ℕ_discrete}
use native.Mathlib.Nat.{mul-le-mul}
use native.Mathlib.Omega.{arith}
use native.Mathlib.Numerals.{add-one}
use borrow.Author.Tests.{lt-ltb}
use Rattle.unit.specs.Operand.{in_bytes}
use Rattle.bits.proofs.Below.{by_test}
use Rattle.std.proofs.lemmas.List.{take_rest}
use Rattle.decimal.proofs.Pages.{line_put, part_put}
use Rattle.std.specs.Prelude.{Result, Ok, Err}
use Rattle.refusals.specs.Numbers.{number_of}
use Rattle.refusals.specs.declared.Refusal.{Refusal}
use Rattle.refusals.specs.declared.Refusal.TheVariants.{Input, Feed, Needle}
use Rattle.search.specs.Positions.{positions}
use Rattle.search.specs.Walk.{bound}
use Rattle.search.specs.Cursors.{longest_needle}
use Rattle.search.proofs.Lists.{calls_find_whole}
use Rattle.search.proofs.Callers.{position_within, positions_few}
use Rattle.report.specs.declared.Tally.{Tally}
use Rattle.report.specs.Report.{feed_at, needle_of, text_of, longest_input, longest_report, refusal_of, number_line, match_lines, totals_line, compares_for, listing, refusal_line, report_of, lines_of, told, Reported}
use Rattle.report.specs.Writers.{Found, Put}
use Rattle.report.proofs.Inputs.{feed_within, length_needle, too_long, no_feed, long_needle, no_refusal, refusal_small}
use Rattle.report.proofs.Lines.{length_number, length_totals, length_lines}

bound_few : (n m : ℕ) → n < longest_input → m ≤ longest_needle → bound in_bytes n m ≤ 4194304
bound_few n m h g =
    let most : n - m + 1 ≤ 65536 = omega arith in
    let pieces : (m + 16 - 1) / 16 ≤ 64 = omega arith in
    by_test (ltb n m) (λ e. rw e (omega arith)) (λ e. rw e (omega (arith, mul-le-mul most pieces)))

module _ (text needle : List ℕ) (small : length text < longest_input) (short : length needle ≤ longest_needle) where
  pub matches_few : length (positions text needle) ≤ 65536
  matches_few = omega (arith, positions_few text needle)

  pub compares_few : compares_for text needle < 10000000000
  compares_few =
      let all = calls_find_whole false text needle (suc (length (positions text needle))) (omega arith) short in
      omega (arith, all.bounded, bound_few (length text) (length needle) small short)

  -- what was found leaves room for the totals
  pub found_fits : {b page : List ℕ} {t : Tally} → Found text needle b page t → length page ≡ longest_report → (t.matches ≤ 65536) × (t.matches * 9 + 19 ≤ length page)
  found_fits found room = (omega (arith, found.matches, matches_few), omega (arith, found.matches, matches_few, room))

  length_matches : length (match_lines (positions text needle)) ≡ length (positions text needle) * 9
  length_matches = length_lines (positions text needle) (λ i l. omega (arith, position_within text needle i l))

  pub length_listing : length (listing text needle) ≡ length (positions text needle) * 9 + 19
  unfolding listing
  length_listing =
      rw (length-append, length_matches, length_totals (length (positions text needle)) (compares_for text needle) (omega (arith, matches_few)) compares_few)

  pub listing_fits : length (listing text needle) ≤ longest_report
  listing_fits = omega (arith, length_listing, matches_few)

  -- the lines of the matches are on the page, and then the totals are put after them
  pub listing_put : (t : Tally) (b page part : List ℕ) → Found text needle b page t
      → part ≡ totals_line t.matches t.compares ++ drop 19 (take (length page - t.matches * 9) (drop (t.matches * 9) page))
      → Put (listing text needle) b (take (t.matches * 9) page ++ (part ++ drop (length page - t.matches * 9) (drop (t.matches * 9) page))) (t.matches * 9 + 19)
  unfolding listing
  listing_put t b page part found e =
      let k = length (positions text needle) in
      let x = totals_line t.matches t.compares in
      record {
        count = rw found.matches (sym length_listing);
        page =
            part_put x page part (t.matches * 9) 19 e
            ∙ rw (length_listing, found.matches, found.compares) (line_put (match_lines (positions text needle)) (totals_line k (compares_for text needle)) b page (k * 9) 19 length_matches found.page);
      }

-- ---- the report

report_refused : (input : List ℕ) (r : Refusal) → refusal_of input ≡ Err r → report_of input ≡ number_line (number_of r)
unfolding report_of
report_refused input r e = rw e

lines_refused : (input : List ℕ) (r : Refusal) → refusal_of input ≡ Err r → lines_of input ≡ []
unfolding lines_of
lines_refused input r e = rw e

report_listed : (input : List ℕ) → refusal_of input ≡ Ok tt → report_of input ≡ listing (text_of input) (needle_of input)
unfolding report_of
report_listed input e = rw e

lines_listed : (input : List ℕ) → refusal_of input ≡ Ok tt → lines_of input ≡ listing (text_of input) (needle_of input)
unfolding lines_of
lines_listed input e = rw e

-- a refusal leaves the page as it was
pub refused_so : (input b : List ℕ) (r : Refusal) → refusal_of input ≡ Err r → Reported input b b (Err r)
refused_so input b r e = record { answer = rw e; page = rw (lines_refused input r e) }

-- the lines were put on the page, from the parts of the input that the code hands on
pub listed_so : (input b after : List ℕ) (at n : ℕ) → at ≡ feed_at input → refusal_of input ≡ Ok tt
    → Put (listing (take (length input - (at + 1)) (drop (at + 1) input)) (take at input)) b after n
    → Reported input b after (Ok n)
listed_so input b after at n e none put =
    let same : listing (take (length input - (at + 1)) (drop (at + 1) input)) (take at input) ≡ lines_of input = rw (take_rest input (at + 1), e, add-one) (sym (lines_listed input none)) in
    let p = subst (λ (l : List ℕ). Put l b after n) same put in
    record { answer = rw none (ap Ok p.count); page = p.page }

text_small : (input : List ℕ) → length input ≤ longest_input → (feed_at input ≡ length input → ⊥) → length (text_of input) < longest_input
text_small input h n = rw length-drop (omega (arith, feed_within input))

number_small : (input : List ℕ) (r : Refusal) → refusal_of input ≡ Err r → number_of r ≤ 7
number_small input r e = rw e at (refusal_small input)

-- Every report fits a page.
pub report_fits : (input : List ℕ) → length (report_of input) ≤ longest_report
report_fits input =
    by_cases (dec_lt longest_input (length input)) (λ h. one Input (too_long input h))
    (λ h. by_cases (ℕ_discrete (feed_at input) (length input)) (λ e. one Feed (no_feed input (omega arith) e))
    (λ n. by_cases (dec_lt longest_needle (feed_at input)) (λ g. one Needle (long_needle input (omega arith) n g))
    (λ g. rw (report_listed input (no_refusal input (omega arith) n (omega arith)))
    (listing_fits (text_of input) (needle_of input) (text_small input (omega arith) n) (rw length_needle (omega arith))))))
  where
    one : (r : Refusal) → refusal_of input ≡ Err r → length (report_of input) ≤ longest_report
    one r e = rw (report_refused input r e, length_number (number_of r) (omega (arith, number_small input r e))) (omega arith)

-- what was answered is what the definition says
told_lines : (input : List ℕ) (n : ℕ) → Ok n ≡ told (refusal_of input) (length (lines_of input)) → (refusal_of input ≡ Ok tt) × (n ≡ length (lines_of input))
told_lines input n e = by_refusal (refusal_of input) refl e
  where
    by_refusal : (x : Result (Unit {0}) Refusal) → refusal_of input ≡ x → Ok n ≡ told x (length (lines_of input)) → (refusal_of input ≡ Ok tt) × (n ≡ length (lines_of input))
    by_refusal (Ok u) h f = (h, cc)
    by_refusal (Err r) h f = cc

told_refused : (input : List ℕ) (by : Refusal) → Err by ≡ told (refusal_of input) (length (lines_of input)) → refusal_of input ≡ Err by
told_refused input by e = by_refusal (refusal_of input) refl e
  where
    by_refusal : (x : Result (Unit {0}) Refusal) → refusal_of input ≡ x → Err by ≡ told x (length (lines_of input)) → refusal_of input ≡ Err by
    by_refusal (Ok u) h f = cc
    by_refusal (Err r) h f = cc

-- no more is written than the page has
pub written_within : {input before after : List ℕ} {n : ℕ} → Reported input before after (Ok n) → n ≤ length after
written_within {input} {n = n} t = rw (t.page, length-append) (omega (arith, (told_lines input n t.answer).1))

-- ---- what the program prints

-- An input that is accepted: the bytes that `report` wrote are all of it.
pub printed_lines : (input before after : List ℕ) (n : ℕ) → Reported input before after (Ok n) → take n after ≡ report_of input
printed_lines input before after n t =
    let told = told_lines input n t.answer in
    rw (t.page, take_at (lines_of input) (drop (length (lines_of input)) before) n (sym told.1), report_listed input told.0, lines_listed input told.0)

-- An input that is refused: the line of its number is.
pub printed_refusal : (input before after : List ℕ) (by : Refusal) → Reported input before after (Err by) → refusal_line (number_of by) ≡ report_of input
unfolding refusal_line
printed_refusal input before after by t =
    let e = told_refused input by t.answer in
    rw (report_refused input by e, lt-ltb (number_of by) 100000000 (omega (arith, number_small input by e)))
