-- Worked lines and pages of document 02 [6], by hand, in one list that one computed check covers.
-- Every byte of a line and of a page is looked at.
use Rattle.std.specs.Prelude.{ℕ, ◌-◌, Bool, ◌&&◌, List, [], ◌∷◌, ◌++◌, T, eqb, length, replicate}
use Rattle.decimal.specs.Decimal.{digits, digits_within, column}
use Rattle.refusals.specs.Numbers.{status}
use Rattle.decimal.specs.Specimens.{all, same}
use Rattle.entries.specs.declared.Entry.{Entry}
use Rattle.entries.specs.Entries.{name_of, bad_entry, form_refusal}
use Rattle.wall_page.specs.Pages.{time_of, printed_byte, name_column, line_of, lines_of, page_of, page_refusal, page_after}

-- an entry with 255 in the bytes past its name
unfoldable pub entered : ℕ → ℕ → List ℕ → Entry
entered k m s =
    record { number = k; minute = m; length = length s; name = s ++ replicate (32 - length s) 255 }

abbrev spaces : ℕ → List ℕ
spaces k = replicate k 32

-- the times 09:05, 00:00 and 23:59, and the name `SMITH`
abbrev early : List ℕ
early = 48 ∷ 57 ∷ 58 ∷ 48 ∷ 53 ∷ []

abbrev midnight : List ℕ
midnight = 48 ∷ 48 ∷ 58 ∷ 48 ∷ 48 ∷ []

abbrev late : List ℕ
late = 50 ∷ 51 ∷ 58 ∷ 53 ∷ 57 ∷ []

abbrev smith : List ℕ
smith = 83 ∷ 77 ∷ 73 ∷ 84 ∷ 72 ∷ []

-- a line of these columns
abbrev line : List ℕ → List ℕ → List ℕ → List ℕ
line number time name = number ++ (32 ∷ []) ++ time ++ (32 ∷ []) ++ name ++ (10 ∷ [])

-- P1, the paper's: entry 7, `SMITH`, minute 545
abbrev seven : Entry
seven = entered 7 545 smith

abbrev seven_line : List ℕ
seven_line = line (spaces 9 ++ (55 ∷ [])) early (smith ++ spaces 27)

unfoldable pub P1 : Bool
P1 = same (line_of seven) seven_line && eqb (length (line_of seven)) 50

-- P2: minute 0, number 0, no name; P3: minute 1,439, number 4294967295, a name of 32 bytes
abbrev none : Entry
none = entered 0 0 []

abbrev none_line : List ℕ
none_line = line (spaces 9 ++ (48 ∷ [])) midnight (spaces 32)

unfoldable pub P2 : Bool
P2 = same (line_of none) none_line

abbrev full : Entry
full = entered 4294967295 1439 (replicate 32 65)

abbrev full_line : List ℕ
full_line =
    line (52 ∷ 50 ∷ 57 ∷ 52 ∷ 57 ∷ 54 ∷ 55 ∷ 50 ∷ 57 ∷ 53 ∷ []) late (replicate 32 65)

unfoldable pub P3 : Bool
P3 = same (line_of full) full_line

-- P4: the bytes 31, 32, 126, 127, 255, a line feed and a zero in a name
unfoldable pub P4 : Bool
P4 =
    same (line_of (entered 7 545 (31 ∷ 32 ∷ 126 ∷ 127 ∷ 255 ∷ 10 ∷ 0 ∷ [])))
    (line (spaces 9 ++ (55 ∷ [])) early ((63 ∷ 32 ∷ 126 ∷ 63 ∷ 63 ∷ 63 ∷ 63 ∷ []) ++ spaces 25))

-- ---- pages, which had `#` in each byte

abbrev blank : ℕ → List ℕ
blank n = replicate n 35

-- n of these entries are written on a page of so many bytes, which is then this
unfoldable pub writes : List Entry → ℕ → ℕ → List ℕ → Bool
writes es n room page = eqb (status (page_refusal es n room)) 0 && same (page_after es n (blank room)) page

-- they are refused with this number, and the page is as it was
unfoldable pub refuses : List Entry → ℕ → ℕ → ℕ → Bool
refuses es n room number =
    eqb (status (page_refusal es n room)) number && same (page_after es n (blank room)) (blank room)

-- P5: a page that fits, one byte long and one byte short
unfoldable pub P5 : Bool
P5 =
    writes (seven ∷ none ∷ []) 2 100 (seven_line ++ none_line)
    && writes (seven ∷ none ∷ []) 2 101 (seven_line ++ none_line ++ (35 ∷ []))
    && refuses (seven ∷ none ∷ []) 2 99 35

-- P6: as handed over: the later first, and one number twice; no entry, on a page and on none
unfoldable pub P6 : Bool
P6 =
    writes (full ∷ seven ∷ seven ∷ []) 3 150 (full_line ++ seven_line ++ seven_line)
    && writes [] 0 3 (blank 3)
    && writes [] 0 0 []

-- P7: a bad entry past the count, and within it; 33 before 35
abbrev minute_bad : Entry
minute_bad = entered 7 1440 smith

abbrev name_bad : Entry
name_bad = entered 7 545 (replicate 33 65)

unfoldable pub P7 : Bool
P7 =
    writes (seven ∷ minute_bad ∷ []) 1 60 (seven_line ++ blank 10)
    && refuses (seven ∷ minute_bad ∷ []) 2 100 33
    && refuses (name_bad ∷ seven ∷ []) 2 100 33
    && refuses (name_bad ∷ seven ∷ []) 2 10 33

-- P8: 200 entries, and 201; 32 before 33 and 35
unfoldable pub P8 : Bool
P8 =
    eqb (status (page_refusal (replicate 200 seven) 200 10000)) 0
    && eqb (status (page_refusal (replicate 200 seven) 200 9999)) 35
    && refuses (replicate 200 minute_bad) 201 10 32

pub pages_hold : T (all (P1 ∷ P2 ∷ P3 ∷ P4 ∷ P5 ∷ P6 ∷ P7 ∷ P8 ∷ []))
unfolding digits digits_within column name_of bad_entry form_refusal time_of printed_byte name_column line_of lines_of page_of page_refusal page_after entered writes refuses P1 P2 P3 P4 P5 P6 P7 P8
pages_hold = tt
