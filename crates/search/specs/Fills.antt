-- A fill: the next matches into one list, as many as it has places for (document 02 [1]: all hits
-- into one list). It is next match repeated, and nothing else. `End` and `Filled` are the types of
-- src/lib.rt.
use Rattle.std.specs.Prelude.{ℕ, zero, suc, ◌≡◌, Bool, List, [], ◌∷◌, ◌++◌, length, drop, Result, Ok, Err}
use Rattle.refusals.specs.Numbers.{number_of}
use Rattle.refusals.specs.declared.Refusal.{Refusal}
use Rattle.search.specs.declared.Cursor.{Cursor}
use Rattle.search.specs.declared.Next.{Next}
use Rattle.search.specs.declared.Next.TheVariants.{Match, Absent, Refused}
use Rattle.search.specs.declared.End.{End}
use Rattle.search.specs.declared.End.TheVariants.{Full, Absent as EndAbsent, Stopped}
use Rattle.search.specs.declared.Filled.{Filled}
use Rattle.search.specs.Cursors.{refusal, next_match}

-- ---- next match repeated

-- the positions that were found, the cursor to go on with, and how it ended
pub record Fill : Type 0 where
  pub positions : List ℕ
  pub cursor : Cursor
  pub end : End

abbrev pub fill_of : List ℕ → Cursor → End → Fill
fill_of ps c e =
    record {
      positions = ps;
      cursor = c;
      end = e;
    }

-- a match at p, then the fill of the places that are left
abbrev pub found_first : ℕ → Fill → Fill
found_first p f = fill_of (p ∷ f.positions) f.cursor f.end

-- One answer, then the rest where it is a match. The rest is a function, so that it is computed
-- only where it is asked for.
abbrev pub after_next : (Cursor → Fill) → Next → Fill
after_next rest (Match p c) = found_first p (rest c)
after_next rest (Absent c) = fill_of [] c EndAbsent
after_next rest (Refused r c) = fill_of [] c (Stopped r)

-- Next match repeated for k places, each with the cursor of the one before. With no place left it
-- is full: nothing more is tested.
abbrev pub fill_from : (Cursor → Next) → ℕ → Cursor → Fill
fill_from next zero c = fill_of [] c Full
fill_from next (suc k) c = after_next (fill_from next k) (next c)

-- ---- the fill

-- an empty list, where next match would be accepted, or refused so
abbrev pub empty_list : Cursor → Result (Unit {0}) Refusal → Fill
empty_list c (Ok u) = fill_of [] c Full
empty_list c (Err r) = fill_of [] c (Stopped r)

-- The fill of a list of k places. For an empty list the refusals are tested once.
unfoldable pub fill : Bool → List ℕ → List ℕ → ℕ → Cursor → Fill
fill words text needle zero c = empty_list c (refusal (length text) (length needle) c)
fill words text needle (suc k) c = fill_from (next_match words text needle) (suc k) c

-- ---- what a call gives

-- the answer: how many positions were written, the cursor, and how it ended
abbrev pub answer_of : Fill → Filled
answer_of f =
    record {
      count = length f.positions;
      cursor = f.cursor;
      end = f.end;
    }

-- the list after the call: the positions in front, the rest as before
abbrev pub written : List ℕ → List ℕ → List ℕ
written ps list = ps ++ drop (length ps) list

-- a call with this list, its answer, and the list after it
pub record FillAnswered (f : Fill) (list : List ℕ) (r : Filled) (list' : List ℕ) : Type 0 where
  pub answer : r ≡ answer_of f
  pub list_after : list' ≡ written f.positions list

-- ---- what an answer says, in document 02's numbers and values

-- Full, absent or stopped by a number, each after so many positions. A number before the first
-- position is a refusal.
pub data FillSaid : Type 0 where
  full : ℕ → FillSaid
  absent : ℕ → FillSaid
  stopped : ℕ → ℕ → FillSaid
  refused : ℕ → FillSaid

abbrev pub stopped_after : ℕ → ℕ → FillSaid
stopped_after number zero = refused number
stopped_after number (suc k) = stopped number (suc k)

abbrev pub said_at : End → ℕ → FillSaid
said_at Full count = full count
said_at EndAbsent count = absent count
said_at (Stopped r) count = stopped_after (number_of r) count

-- What each case of an answer says. Every other reading of an answer, also the one in C, is made
-- from this and from its cursor.
abbrev pub fill_said : Filled → FillSaid
fill_said r = said_at r.end r.count
