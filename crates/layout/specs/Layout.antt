-- An entry as C has it in memory, forty bytes: its number in four, its minute in two, its name's
-- length in two, each low byte first, and the name in thirty-two.
use Prim.Native.Nat.{ℕ, zero, suc, ◌+◌, ◌*◌, ◌/◌, ◌%◌}
use Rattle.std.specs.Prelude.{List, [], ◌∷◌, ◌++◌, map, get_or, take}
use Rattle.bits.specs.Bits.{tabulate}
use Rattle.entries.specs.declared.Entry.{Entry}
use Rattle.entries.specs.Entries.{filled, longest_name, most_entries}

-- k bytes from byte i on as a number, the low one first
abbrev pub number_at : List ℕ → ℕ → ℕ → ℕ
number_at bytes i zero = 0
number_at bytes i (suc k) = get_or bytes i 0 + 256 * number_at bytes (suc i) k

-- a number as k bytes, the low one first
abbrev pub bytes_of : ℕ → ℕ → List ℕ
bytes_of zero n = []
bytes_of (suc k) n = n % 256 ∷ bytes_of k (n / 256)

-- the entry of forty bytes
unfoldable pub entry_of : List ℕ → Entry
entry_of row =
    record {
      number = number_at row 0 4;
      minute = number_at row 4 2;
      length = number_at row 6 2;
      name = tabulate longest_name (λ i. get_or row (8 + i) 0);
    }

-- the forty bytes of an entry
unfoldable pub row_of : Entry → List ℕ
row_of e = bytes_of 4 e.number ++ bytes_of 2 e.minute ++ bytes_of 2 e.length ++ e.name

-- the first 200 rows as entries, and empty entries after them
unfoldable pub entries_of : List (List ℕ) → List Entry
entries_of rows = filled (map entry_of (take most_entries rows))
