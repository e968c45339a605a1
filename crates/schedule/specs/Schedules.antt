-- What a day must be, apart from any way of sorting (document 02 [5]): its entries are sorted and a
-- rearrangement of the cleared ones, with zeros past the count; and entries that are rearranged
-- make the same day. proofs/Laws.antt shows it of `day_answer`, which the contract of `day_of`
-- names.
use Rattle.std.specs.Prelude.{ℕ, ◌-◌, ◌<◌, ◌≡◌, true, false, length, get_or, take, drop, replicate, Ok}
use mathlib.Core.List.{List, Permᴰ}
use Rattle.entries.specs.declared.Entry.{Entry}
use Rattle.entries.specs.Entries.{no_entry, empty_entry, most_entries, precedes}
use Rattle.schedule.specs.declared.Day.{Day}
use Rattle.schedule.specs.Days.{cleared_front, day_answer, day_of, day_refusal}

-- one list is a rearrangement of the other: the library's permutation
abbrev pub Rearranged : List Entry → List Entry → Type 0
Rearranged xs ys = Permᴰ xs ys

-- each entry comes before every later one
abbrev pub Sorted : List Entry → Type 0
Sorted xs =
    (i j : ℕ) → i < j → j < length xs → precedes (get_or xs i no_entry) (get_or xs j no_entry) ≡ true

-- the entries and the count are accepted
abbrev pub Accepted : List Entry → ℕ → Type 0
Accepted es n = day_refusal es n ≡ Ok tt

-- a day of these entries
pub record IsDayOf (es : List Entry) (n : ℕ) (d : Day) : Type 0 where
  pub counted : d.count ≡ n
  pub sorted : Sorted (take n d.entries)
  pub rearranged : Rearranged (take n d.entries) (cleared_front es n)
  pub zeros : drop n d.entries ≡ replicate (most_entries - n) empty_entry

-- What days must be: the day of entries, one day of entries that are rearranged, and no two entries
-- of which neither comes before the other. That the order of entries is total is shown beside it,
-- in `entries`.
pub record IsSchedule : Type 0 where
  pub is_day : (es : List Entry) (n : ℕ) → Accepted es n
      → (day_answer es n ≡ Ok (day_of es n)) × IsDayOf es n (day_of es n)
  pub one_day : (es fs : List Entry) (n : ℕ) → Accepted es n → Accepted fs n
      → Rearranged (cleared_front es n) (cleared_front fs n) → day_answer es n ≡ day_answer fs n
  pub no_ties : (es : List Entry) (n : ℕ) → Accepted es n → (i j : ℕ) → i < n → j < n
      → precedes (get_or es i no_entry) (get_or es j no_entry) ≡ false
      → precedes (get_or es j no_entry) (get_or es i no_entry) ≡ false → i ≡ j
