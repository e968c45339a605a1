-- The claim on a list of calls, next matches and fills mixed in any order, over one text and one
-- needle: they give what next matches alone would have given, one for each place asked for.
use Rattle.std.specs.Prelude.{ℕ, ◌+◌, ◌≤◌, ◌≡◌, Bool, List, [], ◌∷◌, ◌++◌, length, take}
use Rattle.blocks.specs.Blocks.{longest_text}
use Rattle.search.specs.declared.Cursor.{Cursor}
use Rattle.search.specs.Positions.{positions}
use Rattle.search.specs.Walk.{walk_count, bound}
use Rattle.search.specs.Cursors.{fresh_cursor, longest_needle, next_match}
use Rattle.search.specs.Calls.{Said, found, absent, refused, said, cursor_of, said_by, cursor_after}
use Rattle.search.specs.Fills.{fill}

-- ---- a list of calls, each with the cursor of the one before

-- a next match, or a fill of a list of so many places
pub data Call : Type 0 where
  a_next : Call
  a_fill : ℕ → Call

-- how many places a call asks for, and several together
abbrev pub asked : Call → ℕ
asked a_next = 1
asked (a_fill k) = k

abbrev pub asked_by : List Call → ℕ
asked_by [] = 0
asked_by (x ∷ xs) = asked x + asked_by xs

-- the positions that answers of next match say
abbrev pub found_in : List Said → List ℕ
found_in [] = []
found_in (found p ∷ ss) = p ∷ found_in ss
found_in (absent ∷ ss) = found_in ss
found_in (refused number ∷ ss) = found_in ss

-- the positions that a call gives, and the cursor after it
abbrev pub given_by : Bool → List ℕ → List ℕ → Call → Cursor → List ℕ
given_by words text needle a_next c = found_in (said (next_match words text needle c) ∷ [])
given_by words text needle (a_fill k) c = (fill words text needle k c).positions

abbrev pub cursor_by : Bool → List ℕ → List ℕ → Call → Cursor → Cursor
cursor_by words text needle a_next c = cursor_of (next_match words text needle c)
cursor_by words text needle (a_fill k) c = (fill words text needle k c).cursor

-- those of a list of calls, from the cursor c on
abbrev pub all_given : Bool → List ℕ → List ℕ → List Call → Cursor → List ℕ
all_given words text needle [] c = []
all_given words text needle (x ∷ xs) c =
    given_by words text needle x c
    ++ all_given words text needle xs (cursor_by words text needle x c)

abbrev pub cursor_after_all : Bool → List ℕ → List ℕ → List Call → Cursor → Cursor
cursor_after_all words text needle [] c = c
cursor_after_all words text needle (x ∷ xs) c =
    cursor_after_all words text needle xs (cursor_by words text needle x c)

-- ---- as many next matches as places asked for

-- They give the same positions in the same order, and leave the same cursor.
pub record AsNextMatches (words : Bool) (text needle : List ℕ) (calls : List Call) (c : Cursor)
    : Type 0 where
  pub gives : all_given words text needle calls c
      ≡ found_in (said_by words text needle (asked_by calls) c)
  pub leaves : cursor_after_all words text needle calls c
      ≡ cursor_after words text needle (asked_by calls) c

-- From any cursor on, for every text and needle, also those beyond the limits. Proved as
-- `mixed_as_next` in proofs/Mixtures.antt.
abbrev pub MixedAsNext : Type 0
MixedAsNext =
    (words : Bool) (text needle : List ℕ) (calls : List Call) (c : Cursor)
    → AsNextMatches words text needle calls c

-- ---- from the fresh cursor on

-- the first so many of all positions in a part of the text, of `stop` elements, at the walk's
-- count, within the bound
pub record FindsFirst (words : Bool) (text needle : List ℕ) (stop : ℕ) (calls : List Call)
    (part : List ℕ) : Type 0 where
  pub gives : all_given words text needle calls (fresh_cursor stop)
      ≡ take (asked_by calls) (positions part needle)
  pub counts : (cursor_after_all words text needle calls (fresh_cursor stop)).compares
      ≡ walk_count words part needle (asked_by calls)
  pub bounded : walk_count words part needle (asked_by calls) ≤ bound words stop (length needle)

-- Demand 3 for fills, proved as `mixed_finds` in proofs/Mixtures.antt.
abbrev pub MixedFinds : Type 0
MixedFinds =
    (words : Bool) (text needle : List ℕ) (stop : ℕ) (calls : List Call) → length text ≤ longest_text
    → length needle ≤ longest_needle → stop ≤ length text
    → FindsFirst words text needle stop calls (take stop text)

-- The stop at the text's end, proved as `mixed_find_whole` in proofs/Mixtures.antt.
abbrev pub MixedFindWhole : Type 0
MixedFindWhole =
    (words : Bool) (text needle : List ℕ) (calls : List Call) → length text ≤ longest_text
    → length needle ≤ longest_needle → FindsFirst words text needle (length text) calls text
