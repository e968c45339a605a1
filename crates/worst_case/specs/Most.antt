-- The claim on what the calls write: no search of these sizes takes more compares, and this one
-- takes as many as there can be. The compares are those in the cursor.
use Rattle.std.specs.Prelude.{ℕ, ◌+◌, ◌-◌, ◌*◌, ◌/◌, ◌≤◌, ◌≡◌, Bool, List, [], ◌∷◌, ◌++◌, length, replicate, Ok}
use Rattle.blocks.specs.Blocks.{longest_text}
use Rattle.unit.specs.Operand.{count, in_bytes}
use Rattle.search.specs.Cursors.{fresh_cursor, longest_needle}
use Rattle.search.specs.Calls.{found, absent, said_by, cursor_after}
use Rattle.search.specs.Mixed.{Call, cursor_after_all}
use Rattle.worst_case.specs.Cases.{WorstCase, worst}

-- The most compares of a text of n and a needle of m elements: ⌈m/b⌉, one for each piece of the
-- needle, at each of the n - m + 1 positions that leave room for it. It is demand 3's bound, where
-- the needle is no longer than the text.
abbrev pub most : Bool → ℕ → ℕ → ℕ
most words n m = (n - m + 1) * ((m + count words - 1) / count words)

-- This text and needle, of n and m elements, are the slowest to search. Next matches from the fresh
-- cursor on, with the stop at the text's end, find the one match, at n - m, then say absent, and
-- have then taken exactly so many compares. No text and needle of these sizes take more, whatever
-- the stop, and whatever the calls, next matches and fills in any order.
pub record Slowest (words : Bool) (n m : ℕ) (text needle : List ℕ) : Type 0 where
  pub text_size : length text ≡ n
  pub needle_size : length needle ≡ m
  pub says : said_by words text needle 2 (fresh_cursor n) ≡ found (n - m) ∷ absent ∷ []
  pub exactly : (cursor_after words text needle 2 (fresh_cursor n)).compares ≡ most words n m
  pub no_more : (text' needle' : List ℕ) (stop : ℕ) (calls : List Call) → length text' ≡ n
      → length needle' ≡ m
      → (cursor_after_all words text' needle' calls (fresh_cursor stop)).compares
      ≤ (cursor_after words text needle 2 (fresh_cursor n)).compares

-- For all sizes that are not refused. Proved as `worst_slowest` in proofs/Laws.antt.
abbrev pub WorstSlowest : Type 0
WorstSlowest =
    (words : Bool) (n m : ℕ) → count words ≤ m → m ≤ n → n ≤ longest_text → m ≤ longest_needle
    → Slowest words n m (worst n) (worst m)

-- So what an accepted call leaves in its buffers is the slowest search of its sizes. Proved as
-- `written_slowest` in proofs/Laws.antt.
abbrev pub WrittenSlowest : Type 0
WrittenSlowest =
    (words : Bool) (n m : ℕ) (before before' text needle : List ℕ)
    → WorstCase words n m before before' text needle (Ok tt) → Slowest words n m text needle

-- the text and the needle of S5 (document 01)
abbrev pub S5Text : List ℕ
S5Text = replicate 17 65 ++ (66 ∷ [])

abbrev pub S5Needle : List ℕ
S5Needle = replicate 16 65 ++ (66 ∷ [])

-- They are such a search, and their four compares follow. Proved as `S5_follows` in
-- proofs/Laws.antt.
abbrev pub S5Follows : Type 0
S5Follows =
    Slowest in_bytes 18 17 S5Text S5Needle
    × ((cursor_after in_bytes S5Text S5Needle 2 (fresh_cursor 18)).compares ≡ 4)
