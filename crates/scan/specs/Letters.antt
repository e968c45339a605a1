-- The test that passes blocks without a compare: operand 1's first four letters stand nowhere in
-- them, as far as they are asked for. For the contracts of private functions; a reader of the
-- public calls needs none of it.
use Rattle.std.specs.Prelude.{ℕ, ◌+◌, ◌*◌, ◌/◌, ◌%◌, ◌≤◌, ◌<◌, ◌≡◌, Bool, false, ◌&&◌, ◌||◌, List, eqb, leb, get_or, length}
use Rattle.unit.specs.Operand.{count}
use Rattle.scan.specs.Scan.{index_in, whole_blocks}

-- How far past a block its letters may stand, and a block with these elements.
abbrev pub ahead : ℕ
ahead = 3

abbrev pub reach : Bool → ℕ
reach words = count words + ahead

-- Four rows of sixteen places, a row for each letter: the letter is not asked for at that place, as
-- it is past the operand's l letters or would stand past the block of b elements.
abbrev pub unasked_in : ℕ → ℕ → ℕ → Bool
unasked_in b l k = leb l (k / 16) || leb b (k / 16 + k % 16)

-- Letter i, which is x, stands in y for an operand that begins at place j, or the rows u do not
-- ask for it.
abbrev pub stands_at : List ℕ → ℕ → List Bool → ℕ → ℕ → Bool
stands_at y x u j i = eqb (get_or y (j + i) 0) x || get_or u (16 * i + j) false

-- the first four letters of xs do
abbrev pub starts_at : List ℕ → List ℕ → List Bool → ℕ → Bool
starts_at y xs u j =
    ((stands_at y (get_or xs 0 0) u j 0 && stands_at y (get_or xs 1 0) u j 1)
    && stands_at y (get_or xs 2 0) u j 2)
    && stands_at y (get_or xs 3 0) u j 3

-- a block with the elements ahead of it, and rows that ask for the first letter everywhere
pub record Testable (words : Bool) (part : List ℕ) (rows : List Bool) : Type 0 where
  pub size : length part ≡ reach words
  pub asked : (j : ℕ) → j < count words → get_or rows j false ≡ false

-- The part has i whole blocks or more, and the compare of each of the first i has index b.
pub record Passed (words : Bool) (operand1 : List ℕ) (l : ℕ) (part : List ℕ) (i : ℕ) : Type 0 where
  pub within : i ≤ whole_blocks words part
  pub each : (k : ℕ) → k < i → index_in words operand1 l part k ≡ count words

-- The same, on from an earlier block.
pub record Reached (words : Bool) (operand1 : List ℕ) (l : ℕ) (part : List ℕ) (from i : ℕ)
    : Type 0 where
  pub passed : Passed words operand1 l part i
  pub onwards : from ≤ i

-- The first i blocks are passed, and the operand has a letter.
pub record Begun (words : Bool) (operand1 : List ℕ) (l : ℕ) (part : List ℕ) (i : ℕ) : Type 0 where
  pub some : 0 < l
  pub passed : Passed words operand1 l part i
