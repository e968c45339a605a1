-- What the private functions of the page ask and say. A reader of the public call needs none of it.
use Rattle.std.specs.Prelude.{ℕ, ◌*◌, ◌≤◌, ◌<◌, ◌≡◌, false, List, ◌++◌, length, get_or, drop}
use Rattle.entries.specs.declared.Entry.{Entry}
use Rattle.entries.specs.Entries.{last_minute, longest_name, bad_entry, no_entry}
use Rattle.wall_page.specs.Pages.{line_bytes, line_of, lines_of}

-- a minute of the day, and a page with room for its time
pub record TimeFits (minute : ℕ) (page : List ℕ) : Type 0 where
  pub in_day : minute ≤ last_minute
  pub room : 5 ≤ length page

-- a name of so many bytes, and a page with room for its columns
pub record NameFits (size : ℕ) (page : List ℕ) : Type 0 where
  pub short : size ≤ longest_name
  pub room : longest_name ≤ length page

-- an entry that is not refused, and a page with room for its line
pub record Printable (e : Entry) (page : List ℕ) : Type 0 where
  pub good : bad_entry e ≡ false
  pub room : line_bytes ≤ length page

-- The line of an entry was written at the front of a page, the rest of it is as before; and the
-- line has its 50 bytes.
pub record HasLine (e : Entry) (before after : List ℕ) : Type 0 where
  pub page : after ≡ line_of e ++ drop line_bytes before
  pub long : length (line_of e) ≡ line_bytes

-- entries that are not refused, and a page with room for their lines
pub record Room (es : List Entry) (page : List ℕ) : Type 0 where
  pub good : (i : ℕ) → i < length es → bad_entry (get_or es i no_entry) ≡ false
  pub room : line_bytes * length es ≤ length page

-- the lines of the entries were written at the front of the page, the rest of it is as before
abbrev pub HasLines : List Entry → List ℕ → List ℕ → Type 0
HasLines es before after = after ≡ lines_of es ++ drop (line_bytes * length es) before
