-- The places of entries in an array, for private contracts.
use Rattle.std.specs.Prelude.{ℕ, ◌+◌, ◌≤◌, ◌<◌, ◌≡◌, List, [], ◌∷◌, ◌++◌, map, length, get_or, take, drop}
use Rattle.entries.specs.declared.Entry.{Entry}
use Rattle.entries.specs.Entries.{filled, no_entry, most_entries}
use Rattle.schedule.specs.declared.Day.{Day}
use Rattle.schedule.specs.Days.{inserted}

-- the number of an entry
abbrev pub number_of : Entry → ℕ
number_of e = e.number

-- numbers that are places of n entries
pub data Places (n : ℕ) : List ℕ → Type 0 where
  no_place : Places n []
  and_place : {k : ℕ} {ks : List ℕ} → k < n → Places n ks → Places n (k ∷ ks)

-- the entries at some places
unfoldable pub entries_at : List Entry → List ℕ → List Entry
entries_at es ks = map (λ k. get_or es k no_entry) ks

-- the places of the first n entries stand in the order of the day
pub record Placed (es : List Entry) (ks : List ℕ) (n : ℕ) : Type 0 where
  pub long : length ks ≡ most_entries
  pub places : Places (length es) (take n ks)
  pub in_place : entries_at es (take n ks) ≡ inserted (take n es)

-- the entries in the order of the day, and empty ones after them
pub record IsGathered (es : List Entry) (d : Day) : Type 0 where
  pub entries : d.entries ≡ filled (inserted es)
  pub counted : d.count ≡ length es

-- there is room for one place more after n, at p or later
pub record Room (ks : List ℕ) (p n : ℕ) : Type 0 where
  pub at_most : p ≤ n
  pub left : n < most_entries
  pub long : length ks ≡ most_entries

-- k was put in at p of the first n, and ks has become ls
pub record PutAt (ks ls : List ℕ) (p n k : ℕ) : Type 0 where
  pub long : length ls ≡ most_entries
  pub front : take (n + 1) ls ≡ take p ks ++ k ∷ drop p (take n ks)
