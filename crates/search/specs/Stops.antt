-- What a stop means (document 02 [2]): a needle must end within it, it goes in and out with the
-- cursor, and nothing past it changes an answer.
use Rattle.std.specs.Prelude.{ℕ, ◌+◌, ◌≤◌, ◌≡◌, Bool, ◌&&◌, List, leb, length, take}
use Rattle.blocks.specs.Blocks.{longest_text}
use Rattle.search.specs.declared.Cursor.{Cursor}
use Rattle.search.specs.Positions.{stands}
use Rattle.search.specs.Walk.{walk}
use Rattle.search.specs.Cursors.{answered, refusal, next_match}
use Rattle.search.specs.Calls.{said_by}
use Rattle.search.specs.Fills.{fill}
use Rattle.search.specs.Mixed.{Call, all_given, cursor_after_all}

-- The positions in the text's first `stop` elements are those in the text where the needle ends
-- within the stop: p + m ≤ stop. Proved as `ends_within` in proofs/Stops.antt.
abbrev pub EndsWithin : Type 0
EndsWithin =
    (text needle : List ℕ) (stop p : ℕ) → stop ≤ length text
    → stands (take stop text) needle p
    ≡ leb (p + length needle) stop && stands text needle p

-- No list of calls changes the stop, accepted or refused. Proved as `stop_kept` in
-- proofs/Stops.antt.
abbrev pub StopKept : Type 0
StopKept =
    (words : Bool) (text needle : List ℕ) (calls : List Call) (c : Cursor)
    → (cursor_after_all words text needle calls c).stop ≡ c.stop

-- two texts within the limit, each with room for the stop, that are the same below it
pub record AlikeBelow (stop : ℕ) (text text' : List ℕ) : Type 0 where
  pub small : length text ≤ longest_text
  pub small' : length text' ≤ longest_text
  pub reaches : stop ≤ length text
  pub reaches' : stop ≤ length text'
  pub same : take stop text ≡ take stop text'

-- one cursor gets the same answers from both, and so does every list of next matches; a list of
-- both kinds gets the same positions and leaves the same cursor
pub record AnswersAlike (words : Bool) (text text' needle : List ℕ) (c : Cursor) : Type 0 where
  pub next : next_match words text needle c ≡ next_match words text' needle c
  pub fills : (k : ℕ) → fill words text needle k c ≡ fill words text' needle k c
  pub says : (k : ℕ) → said_by words text needle k c ≡ said_by words text' needle k c
  pub given : (calls : List Call) → all_given words text needle calls c
      ≡ all_given words text' needle calls c
  pub after : (calls : List Call) → cursor_after_all words text needle calls c
      ≡ cursor_after_all words text' needle calls c

-- Nothing past the stop changes anything. With the text's front for one of the two it says that a
-- search is that of the front. Proved as `nothing_past` in proofs/Stops.antt.
abbrev pub NothingPast : Type 0
NothingPast =
    (words : Bool) (text text' needle : List ℕ) (c : Cursor) → AlikeBelow c.stop text text'
    → AnswersAlike words text text' needle c

-- The stop at the text's end: every call is the walk over the whole text, as it was without a stop.
-- Proved as `whole_at_end` in proofs/Stops.antt.
abbrev pub WholeAtEnd : Type 0
WholeAtEnd =
    (words : Bool) (text needle : List ℕ) (c : Cursor) → c.stop ≡ length text
    → next_match words text needle c
    ≡ answered (refusal (length text) (length needle) c) c (walk words text needle)
