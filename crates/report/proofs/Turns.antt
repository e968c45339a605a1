-- The loop of `put_matches`: what holds after k matches, and that a turn keeps it. Assumes nothing.
use Prim.Native.Nat.{ℕ, suc, ◌+◌, ◌-◌, ◌*◌, ◌≤◌, ◌<◌}
use mathlib.Core.Path.{◌≡◌, refl, sym, ap, ◌∙◌}
use mathlib.Core.List.{List, [], ◌++◌}
use mathlib.Core.Logic.{by_cases, ◌⊎◌, inl, inr}
use lib.ListN.{length, get_or, take, drop, length-append, length-take, length-drop}
use lib.Seq.{take-length, get_or-take, length-take-le}
use native.Mathlib.Decide.{dec_lt}
use native.Mathlib.Omega.{arith}
use native.Mathlib.Numerals.{add-one}
use Rattle.refusals.specs.declared.Refusal.{Refusal}
use Rattle.unit.specs.Operand.{in_bytes}
use Rattle.search.specs.declared.Cursor.{Cursor}
use Rattle.search.specs.declared.Next.{Next}
use Rattle.search.specs.declared.Next.TheVariants.{Match, Absent, Refused}
use Rattle.search.specs.Positions.{positions}
use Rattle.search.specs.Walk.{walk_count}
use Rattle.search.specs.Cursors.{fresh_cursor, longest_needle, next_match}
use Rattle.search.specs.Calls.{cursor_of, cursor_after}
use Rattle.search.proofs.Lists.{calls_find_whole}
use Rattle.search.proofs.Callers.{finds, ends, position_within, positions_few}
use Rattle.report.specs.Report.{longest_input, longest_report, number_line, match_lines}
use Rattle.report.specs.Writers.{Found}
use Rattle.report.proofs.Lines.{lines_more, length_lines, length_number}
use Rattle.decimal.proofs.Pages.{line_put, part_put}

-- the cursor after k calls
abbrev pub cursor_by : List ℕ → List ℕ → ℕ → Cursor
cursor_by text needle k = cursor_after in_bytes text needle k (fresh_cursor (length text))

-- the page has the lines of the first k matches
abbrev pub HasLines : List ℕ → List ℕ → List ℕ → List ℕ → ℕ → Type 0
HasLines text needle before page k = page ≡ match_lines (take k (positions text needle)) ++ drop (k * 9) before

-- an answer is of one kind, with this cursor
abbrev AnyOf : Next → Cursor → Type 0
AnyOf x c = ((p : ℕ) × (x ≡ Match p c)) ⊎ ((x ≡ Absent c) ⊎ ((r : Refusal) × (x ≡ Refused r c)))

-- none at first
pub no_lines : (before : List ℕ) → before ≡ match_lines [] ++ drop (0 * 9) before
unfolding match_lines
no_lines before = refl

-- After k matches: the answer is that of the next call, and the page has their lines.
pub record Calling (text needle before : List ℕ) (k : ℕ) (answer : Next) (page : List ℕ) : Type 0 where
  pub within : k ≤ length (positions text needle)
  pub at : answer ≡ next_match in_bytes text needle (cursor_by text needle k)
  pub room : length page ≡ length before
  pub lines : HasLines text needle before page k

module _ (text needle : List ℕ) (small : length text < longest_input) (short : length needle ≤ longest_needle) where
  -- the first k lines, and how long they are
  length_first : (k : ℕ) → k ≤ length (positions text needle) → length (match_lines (take k (positions text needle))) ≡ k * 9
  length_first k h =
      let ps = positions text needle in
      let l : length (take k ps) ≡ k = length-take-le k ps h in
      length_lines (take k ps) (λ i j. rw (get_or-take k ps i 0 (omega arith)) (omega (arith, position_within text needle i (omega arith)))) ∙ ap (λ (n : ℕ). n * 9) l

  one_more : (before page : List ℕ) (k : ℕ) → k < length (positions text needle) → HasLines text needle before page k
      → HasLines text needle before (take (k * 9) page ++ (number_line (get_or (positions text needle) k 0) ++ drop (k * 9 + 9) page)) (k + 1)
  one_more before page k l has =
      let ps = positions text needle in
      let n : (k + 1) * 9 ≡ k * 9 + 9 = omega arith in
      rw (line_put (match_lines (take k ps)) (number_line (get_or ps k 0)) before page (k * 9) 9 (length_first k (omega arith)) has, n, add-one)
      (rw (lines_more ps k l))

  -- ---- a turn

  module _ {before page : List ℕ} {k : ℕ} {x : Next} (calling : Calling text needle before k x page) where
    -- the answer is the next match, or absent after the last
    is_next : k < length (positions text needle) → x ≡ Match (get_or (positions text needle) k 0) (cursor_by text needle (suc k))
    is_next l = calling.at ∙ finds in_bytes text needle (omega arith) short k l

    is_absent : length (positions text needle) ≤ k → (k ≡ length (positions text needle)) × (x ≡ Absent (cursor_by text needle (suc k)))
    is_absent g =
        let all : k ≡ length (positions text needle) = omega (arith, calling.within) in
        (all, calling.at ∙ ends in_bytes text needle (omega arith) short k all)

    -- what a match tells
    is_match : (p : ℕ) (after : Cursor) → x ≡ Match p after → (k < length (positions text needle)) × (p ≡ get_or (positions text needle) k 0) × (after ≡ cursor_by text needle (suc k))
    is_match p after e =
        by_cases (dec_lt k (length (positions text needle)))
        (λ l. let is = sym e ∙ is_next l in (l, cc, cc))
        (λ g. let is = sym e ∙ (is_absent (omega arith)).1 in cc)

    pub match_small : (p : ℕ) (after : Cursor) → x ≡ Match p after → p < 100000000
    match_small p after e =
        let is = is_match p after e in
        omega (arith, is.1, position_within text needle k is.0)

    -- its line is put behind the others
    pub matched : length before ≡ longest_report → (p : ℕ) (after : Cursor) (y : Next) (part : List ℕ) → x ≡ Match p after → y ≡ next_match in_bytes text needle after
        → part ≡ number_line p ++ drop 9 (take (length page - k * 9) (drop (k * 9) page))
        → Calling text needle before (k + 1) y (take (k * 9) page ++ (part ++ drop (length page - k * 9) (drop (k * 9) page)))
    matched long p after y part e called put =
        let is = is_match p after e in
        let fits : k * 9 + 9 ≤ length page = omega (arith, is.0, positions_few text needle, calling.room, long) in
        let line = length_number p (match_small p after e) in
        let new = part_put (number_line p) page part (k * 9) 9 put in
        record {
          within = omega (arith, is.0);
          at = called ∙ ap (next_match in_bytes text needle) (is.2 ∙ ap (cursor_by text needle) (sym (add-one k)));
          room = ap length new ∙ simp (length-append, length-take, length-drop) (omega (arith, line, fits)) ∙ calling.room;
          lines = new ∙ ap (λ (q : ℕ). take (k * 9) page ++ (number_line q ++ drop (k * 9 + 9) page)) is.1 ∙ one_more before page k is.0 calling.lines;
        }

    last_is : (last : Cursor) → AnyOf x last → cursor_of x ≡ last
    last_is last (inl (p, is)) = ap cursor_of is
    last_is last (inr (inl is)) = ap cursor_of is
    last_is last (inr (inr (r, is))) = ap cursor_of is

    -- an answer that is no match, with this cursor, comes after the last one
    pub found_all : ((p : ℕ) (after : Cursor) → x ≡ Match p after → ⊥) → (last : Cursor) → AnyOf x last → Found text needle before page (record { matches = k; compares = last.compares })
    found_all none last any =
        by_cases (dec_lt k (length (positions text needle)))
        (λ l. absurd (none _ _ (is_next l)))
        (λ g. let all = (is_absent (omega arith)).0 in
        let is : last ≡ cursor_by text needle (suc k) = sym (last_is last any) ∙ ap cursor_of (is_absent (omega arith)).1 in record {
          matches = all;
          compares =
              ap (λ (d : Cursor). d.compares) is ∙ (calls_find_whole in_bytes text needle (suc k) (omega arith) short).counts
              ∙ ap (λ (n : ℕ). walk_count in_bytes text needle (suc n)) all;
          page = calling.lines ∙ ap (λ (n : ℕ). match_lines (take n (positions text needle)) ++ drop (n * 9) before) all ∙ rw (take-length (positions text needle));
        })
