-- The wall page of some entries (document 02 [6]): a line of 50 bytes for each entry, column by
-- column, one line after the other. Bytes are numbers: 48 to 57 are the digits 0 to 9. Each
-- definition computes; `Aligned.antt` says what a line and a page must be.
use Rattle.std.specs.Prelude.{ℕ, ◌+◌, ◌-◌, ◌*◌, ◌/◌, ◌%◌, ◌≡◌, cond, ◌||◌, List, [], ◌∷◌, ◌++◌, map, ltb, length, take, drop, replicate, Result, Ok, Err, is_ok}
use Rattle.refusals.specs.declared.Refusal.{Refusal}
use Rattle.refusals.specs.declared.Refusal.TheVariants.{Page}
use Rattle.decimal.specs.Decimal.{column}
use Rattle.entries.specs.declared.Entry.{Entry}
use Rattle.entries.specs.Entries.{longest_name, name_of, form_refusal, if_accepted}

-- ---- a line

abbrev pub feed : ℕ
feed = 10

abbrev pub space : ℕ
space = 32

abbrev pub colon : ℕ
colon = 58

abbrev pub question_mark : ℕ
question_mark = 63

-- a number below 100 as two digits
abbrev pub two_digits : ℕ → List ℕ
two_digits n = (48 + n / 10) ∷ (48 + n % 10) ∷ []

-- a minute of the day: the hours, a colon, the minutes
unfoldable pub time_of : ℕ → List ℕ
time_of m = two_digits (m / 60) ++ (colon ∷ two_digits (m % 60))

-- a name byte as it is printed: one outside 32 to 126 as `?`
unfoldable pub printed_byte : ℕ → ℕ
printed_byte x = cond (ltb x 32 || ltb 126 x) question_mark x

-- a name in its columns, padded with spaces
unfoldable pub name_column : List ℕ → List ℕ
name_column name = map printed_byte name ++ replicate (longest_name - length name) space

-- the printed name of an entry: its columns hold no byte past the name's length
abbrev pub printed_name : Entry → List ℕ
printed_name e = name_column (name_of e)

-- The line of an entry: the number right-justified in 10, a space, the time, a space, the name in
-- 32, a line feed.
unfoldable pub line_of : Entry → List ℕ
line_of e =
    column e.number 10 ++ (space ∷ []) ++ time_of e.minute ++ (space ∷ []) ++ printed_name e
    ++ (feed ∷ [])

-- ---- a page

-- the bytes of a line (`fifty` in proofs/Laws.antt)
abbrev pub line_bytes : ℕ
line_bytes = 50

-- lines one after the other
unfoldable pub lines_of : List Entry → List ℕ
lines_of [] = []
lines_of (e ∷ es) = line_of e ++ lines_of es

-- a page with the lines of the first n entries, and then what was there
unfoldable pub page_of : List Entry → ℕ → List ℕ → List ℕ
page_of es n page = lines_of (take n es) ++ drop (line_bytes * n) page

-- n entries and a page of so many bytes are refused, with 32 and 33 by the entries, then with 35 by
-- the page, or accepted
unfoldable pub page_refusal : List Entry → ℕ → ℕ → Result (Unit {0}) Refusal
page_refusal es n room =
    if_accepted (form_refusal es n) (cond (ltb room (line_bytes * n)) (Err Page) (Ok tt))

-- ---- the call

-- the page after the call: refused, as it was
unfoldable pub page_after : List Entry → ℕ → List ℕ → List ℕ
page_after es n page = cond (is_ok (page_refusal es n (length page))) (page_of es n page) page

-- what the call answers, and the page that it leaves
pub record DayPage (es : List Entry) (n : ℕ) (before after : List ℕ) (r : Result (Unit {0}) Refusal) : Type 0 where
  pub answer : r ≡ page_refusal es n (length before)
  pub page : after ≡ page_after es n before
