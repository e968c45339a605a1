-- What a line and a page must be, so that the columns line up on the wall and no two services look
-- alike (document 02 [6]). proofs/Laws.antt shows it.
use Rattle.std.specs.Prelude.{ℕ, ◌*◌, ◌≤◌, ◌<◌, ◌≡◌, false, List, length, get_or, take, drop}
use Rattle.entries.specs.declared.Entry.{Entry}
use Rattle.entries.specs.Entries.{bad_entry, most_entries, no_entry}
use Rattle.wall_page.specs.Pages.{feed, line_bytes, line_of, printed_name, page_after}

-- an entry that is not refused; its number has 32 bits
pub record Accepted (e : Entry) : Type 0 where
  pub number : e.number < 4294967296
  pub good : bad_entry e ≡ false

-- Every line has 50 bytes, the last a line feed; each of the others is from 32 to 126, and so no
-- line feed. Entries that differ in number, minute or printed name have different lines.
pub record IsLine : Type 0 where
  pub fifty : (e : Entry) → Accepted e → length (line_of e) ≡ line_bytes
  pub last : (e : Entry) → Accepted e → get_or (line_of e) 49 0 ≡ feed
  pub others : (e : Entry) → Accepted e → (i : ℕ) → i < 49
      → (32 ≤ get_or (line_of e) i 0) × (get_or (line_of e) i 0 ≤ 126)
  pub apart : (a b : Entry) → Accepted a → Accepted b → line_of a ≡ line_of b
      → (a.number ≡ b.number) × (a.minute ≡ b.minute) × (printed_name a ≡ printed_name b)

-- entries as the call is handed them: 200, each with a number of 32 bits
pub record Handed (es : List Entry) : Type 0 where
  pub places : length es ≡ most_entries
  pub numbers : (i : ℕ) → i < most_entries → (get_or es i no_entry).number < 4294967296

-- accepted, line r begins at byte 50 × r of the page, bytes after the last line stay, and the page
-- is as long as it was
pub record IsPage (es : List Entry) (n : ℕ) (before : List ℕ) : Type 0 where
  pub line : (r : ℕ) → r < n
      → take line_bytes (drop (line_bytes * r) (page_after es n before)) ≡ line_of (get_or es r no_entry)
  pub rest : drop (line_bytes * n) (page_after es n before) ≡ drop (line_bytes * n) before
  pub same_length : length (page_after es n before) ≡ length before
