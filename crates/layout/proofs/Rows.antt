-- An entry's numbers by their bytes, and what the loops over entries and rows come to. Assumes
-- nothing.
use Prim.Native.Nat.{ℕ, ◌+◌, ◌*◌, ◌/◌, ◌<◌, min}
use mathlib.Core.Path.{◌≡◌, ap, ◌∙◌}
use mathlib.Core.List.{List, [], ◌++◌, map}
use native.Mathlib.Nat.{min_comm}
use native.Mathlib.Omega.{arith}
use lib.ListN.{length, get_or, take, drop, length-take, length-drop}
use lib.Seq.{get_or-take, get_or-drop, take_all}
use Rattle.entries.proofs.Fills.{filling, filling_filled, table_by_each, table_front}
use Rattle.entries.specs.Entries.{empty_entry, filled, no_entry}
use Rattle.std.proofs.lemmas.List.{take_min}
use Rattle.std.specs.Int.{w16, w32, to_le_bytes}
use Rattle.bits.specs.Bits.{tabulate}
use Rattle.entries.specs.declared.Entry.{Entry}
use Rattle.layout.specs.Layout.{entries_of, entry_of, number_at, row_of}

-- ---- an entry and its row

-- the name of a row
name_read : (row : List ℕ) → length row ≡ 40 → take 32 (drop 8 row) ≡ tabulate 32 (λ j. get_or row (8 + j) 0)
name_read row h =
    table_by_each (λ j. get_or row (8 + j) 0) (take 32 (drop 8 row)) 32 0 (omega (arith, length-take 32 (drop 8 row), length-drop 8 row))
    (λ k u. get_or-take 32 (drop 8 row) k 0 u ∙ get_or-drop 8 row k 0)

pub entry_made : (row name : List ℕ) (number minute long : ℕ) → length row ≡ 40
    → number ≡ get_or row 0 0 + get_or row 1 0 * 256 + get_or row 2 0 * 65536 + get_or row 3 0 * 16777216
    → minute ≡ get_or row 4 0 + get_or row 5 0 * 256 → long ≡ get_or row 6 0 + get_or row 7 0 * 256
    → name ≡ take 32 (drop 8 row)
    → ◌≡◌ {A = Entry} (record { number = number; minute = minute; length = long; name = name }) (entry_of row)
unfolding entry_of
entry_made row name number minute long h n m l e =
    let n' : number ≡ number_at row 0 4 = omega arith in
    let m' : minute ≡ number_at row 4 2 = omega arith in
    let l' : long ≡ number_at row 6 2 = omega arith in
    let e' : name ≡ tabulate 32 (λ j. get_or row (8 + j) 0) = e ∙ name_read row h in
    λ t. record { number = n' t; minute = m' t; length = l' t; name = e' t }

pub row_made : (e : Entry) (bytes : List ℕ)
    → bytes ≡ to_le_bytes w32 e.number ++ to_le_bytes w16 e.minute ++ to_le_bytes w16 e.length ++ e.name → bytes ≡ row_of e
unfolding row_of
row_made e bytes q =
    let two : e.number / 256 / 256 ≡ e.number / 65536 = omega arith in
    let three : e.number / 65536 / 256 ≡ e.number / 16777216 = omega arith in
    rw (two, three) q

-- ---- all entries, and all rows

pub entries_read : (rows : List (List ℕ)) (i : ℕ) (out : List Entry) → i ≡ min (length rows) 200
    → out ≡ filling 200 empty_entry (λ j. entry_of (get_or rows j [])) i → out ≡ entries_of rows
unfolding entries_of
entries_read rows i out h e =
    e ∙ rw h (filling_filled _ (min (length rows) 200)) ∙ ap filled (table_front entry_of (min (length rows) 200) rows [] (omega arith) ∙ ap (map entry_of) (ap (λ (n : ℕ). take n rows) (min_comm (length rows) 200) ∙ take_min 200 rows))

pub rows_written : (es : List Entry) (rows : List (List ℕ)) → length es ≡ 200 → length rows ≡ 200
    → ((k : ℕ) → k < 200 → get_or rows k [] ≡ row_of (get_or es k no_entry)) → rows ≡ map row_of es
rows_written es rows h g e =
    table_by_each (λ k. row_of (get_or es k no_entry)) rows 200 [] g e
    ∙ table_front row_of 200 es no_entry (omega arith) ∙ ap (map row_of) (take_all 200 es (omega arith))
