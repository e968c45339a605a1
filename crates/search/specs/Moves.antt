-- What the private functions of the search ask and say: how a cursor moves. A reader of the public
-- calls needs none of it.
use Rattle.std.specs.Prelude.{ℕ, ◌+◌, ◌≤◌, ◌<◌, min, ◌≡◌, Bool, true, false, cond, List, ltb, drop, length, take, Ok}
use Rattle.blocks.specs.Blocks.{longest_text, operand_of}
use Rattle.unit.specs.Operand.{count}
use Rattle.search.specs.declared.Cursor.{Cursor}
use Rattle.search.specs.declared.Next.{Next}
use Rattle.search.specs.declared.Next.TheVariants.{Match, Absent, Refused}
use Rattle.search.specs.declared.End.{End}
use Rattle.search.specs.declared.End.TheVariants.{Full, Absent as EndAbsent, Stopped}
use Rattle.search.specs.declared.Filled.{Filled}
use Rattle.search.specs.declared.Stepped.{Stepped}
use Rattle.search.specs.declared.Stepped.TheVariants.{Found, Missed}
use Rattle.search.specs.declared.Walked.{Walked}
use Rattle.search.specs.Cursors.{longest_needle, moved, refusal}
use Rattle.search.specs.Calls.{cursor_of}
use Rattle.search.specs.Fills.{answer_of, fill_from, written}
use Rattle.search.specs.Walk.{Later, none_differs, one_differs, later, Ended, match_at, nowhere, plus, walk}

-- ---- what they ask

-- more compares than any accepted call comes to
abbrev pub many_compares : ℕ
many_compares = 2199023255552

-- a text and a needle within their limits
pub record Searchable (text needle : List ℕ) : Type 0 where
  pub small : length text ≤ longest_text
  pub short : length needle ≤ longest_needle

-- The cursor's position leaves room for the needle, whose first piece has l elements; its compares
-- are few, those of a scan counted.
pub record Room (words : Bool) (text needle : List ℕ) (l : ℕ) (c : Cursor) : Type 0 where
  pub searchable : Searchable text needle
  pub room : c.position + length needle ≤ length text
  pub few : c.compares ≤ many_compares + longest_text
  pub size : l ≡ min (count words) (length needle)

-- The same before a step; `first` is the operand of the needle's first piece.
pub record Ready (words : Bool) (text needle first : List ℕ) (l : ℕ) (c : Cursor) : Type 0 where
  pub searchable : Searchable text needle
  pub room : c.position + length needle ≤ length text
  pub few : c.compares ≤ many_compares
  pub size : l ≡ min (count words) (length needle)
  pub operand : first ≡ operand_of words (take l needle)

-- No refusal, a text that is cut at the stop, the size of the needle's first piece, and a list with
-- a place or more, for a walk.
pub record Walkable (words : Bool) (text needle : List ℕ) (l : ℕ) (c : Cursor) (list : List ℕ)
    : Type 0 where
  pub accepted : refusal (length text) (length needle) c ≡ Ok tt
  pub cut : c.stop ≡ length text
  pub size : l ≡ min (count words) (length needle)
  pub places : 0 < length list

-- ---- how a cursor moves

-- a step that finds the needle at the cursor c, with these compares behind it
abbrev pub found_by : Cursor → ℕ → Stepped
found_by c compares = Found (moved c c.position compares false)

-- a step that misses it, on by some elements
abbrev pub missed_by : Cursor → ℕ → ℕ → Stepped
missed_by c by compares = Missed (moved c (c.position + by) compares false)

-- what the needle's pieces from its element i on come to, where the needle is held against the text
-- from p on
abbrev pub later_at : Bool → List ℕ → List ℕ → ℕ → ℕ → Later
later_at words text needle p i = later words (drop i needle) (drop (p + i) text)

-- the cursor c after the later pieces, the compare of the first piece counted too
abbrev pub rested : Cursor → Later → Stepped
rested c (none_differs k) = found_by c (c.compares + 1 + k)
rested c (one_differs k) = missed_by c 1 (c.compares + 1 + k)

-- how the later pieces come out, from how many agree and how many there are
abbrev pub later_by : ℕ → ℕ → Later
later_by agreeing pieces =
    cond (ltb agreeing pieces) (one_differs (agreeing + 1)) (none_differs agreeing)

-- ---- how a walk goes on

-- how the walk from the cursor's position ends, the cursor's compares counted too
abbrev pub total : Bool → List ℕ → List ℕ → Cursor → Ended
total words text needle c = plus c.compares (walk words text needle c.position)

-- how it ends after a step: there if the step found the needle, else as the walk from there does
abbrev pub from : Bool → List ℕ → List ℕ → Stepped → Ended
from words text needle (Found c) = match_at c.position c.compares
from words text needle (Missed c) = total words text needle c

-- the cursor after a step
abbrev pub reached : Stepped → Cursor
reached (Found c) = c
reached (Missed c) = c

-- Steps led from the cursor c to r: the walk ends as before, with all its compares. If they did not
-- find the needle, they moved on; they never go back.
pub record Led (words : Bool) (text needle : List ℕ) (c : Cursor) (r : Stepped) : Type 0 where
  pub same : from words text needle r ≡ total words text needle c
  pub onwards : (d : Cursor) → r ≡ Missed d → c.position < d.position
  pub ahead : c.position ≤ (reached r).position
  pub near : (reached r).position ≤ length text

-- ---- the answer

-- the answer of a call that began with the cursor c, from how its walk ended, the cursor's compares
-- counted too
abbrev pub ended : Cursor → Ended → Next
ended c (match_at q k) = Match q (moved c (q + 1) k false)
ended c (nowhere k) = Absent (moved c c.position k true)

-- ---- a walk over several matches

-- how a fill ended, from the last answer
abbrev pub end_of : Next → End
end_of (Match p c) = Full
end_of (Absent c) = EndAbsent
end_of (Refused r c) = Stopped r

-- a fill's answer, from how many positions it wrote and the last answer
abbrev pub filled_by : ℕ → Next → Filled
filled_by count last =
    record {
      count = count;
      cursor = cursor_of last;
      end = end_of last;
    }

-- The walk w from the cursor c on, with this list before and after it: it is a fill, and with one
-- place its last answer is the next match.
pub record Walks (next : Cursor → Next) (c : Cursor) (list : List ℕ) (w : Walked) (list' : List ℕ)
    : Type 0 where
  pub answer : filled_by w.count w.last ≡ answer_of (fill_from next (length list) c)
  pub list_after : list' ≡ written (fill_from next (length list) c).positions list
  pub one : length list ≡ 1 → w.last ≡ next c
