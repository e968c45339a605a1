-- The two compares of a search, each repeated over a part. A scan: equal ordered, operand 1 with
-- each whole block of a part in turn, up to the first whose index is not b. And how many pieces of
-- two parts agree: equal each, negated, up to the first that differs. `words` is the width; b is
-- `count words`.
use Rattle.std.specs.Prelude.{ℕ, ◌+◌, ◌*◌, ◌-◌, ◌/◌, min, Bool, not, cond, List, eqb, ltb, drop, length, take, pos}
use Rattle.bits.specs.Bits.{least_below}
use Rattle.blocks.specs.Blocks.{compare_index, each_negated, operand_of}
use Rattle.unit.specs.Operand.{count}
use Rattle.unit.specs.Calls.{PCMPESTRI}
use Rattle.scan.specs.declared.Scanned.{Scanned}

-- ---- the scan

-- how many whole blocks a part has
abbrev pub whole_blocks : Bool → List ℕ → ℕ
whole_blocks words part = length part / count words

-- One compare, at 0Ch, in words 0Dh: the index of operand 1, of length l, in block i of the part.
unfoldable pub index_in : Bool → List ℕ → ℕ → List ℕ → ℕ → ℕ
index_in words operand1 l part i =
    (PCMPESTRI operand1 (pos l) (operand_of words (take (count words) (drop (i * count words) part)))
    (pos (count words)) (0x0C + cond words 1 0)).index

abbrev pub scanned : ℕ → ℕ → Scanned
scanned blocks index = record { blocks = blocks; index = index }

-- the first block whose index is not b, or how many there are
abbrev pub first_found : Bool → List ℕ → ℕ → List ℕ → ℕ
first_found words operand1 l part =
    least_below (whole_blocks words part)
    (λ i. not (eqb (index_in words operand1 l part i) (count words)))

-- the index in block i, or b where the part has no such block
abbrev pub index_or_none : Bool → List ℕ → ℕ → List ℕ → ℕ → ℕ
index_or_none words operand1 l part i =
    cond (ltb i (whole_blocks words part)) (index_in words operand1 l part i) (count words)

-- The scan: how many blocks came before the first that has an index, and this index.
unfoldable pub scan_of : Bool → List ℕ → ℕ → List ℕ → Scanned
scan_of words operand1 l part =
    scanned (first_found words operand1 l part)
    (index_or_none words operand1 l part (first_found words operand1 l part))

-- ---- two parts, piece by piece

-- how many elements both parts have
abbrev pub common : List ℕ → List ℕ → ℕ
common x y = min (length x) (length y)

-- how many pieces n elements make; the last may be shorter than b
abbrev pub piece_count : Bool → ℕ → ℕ
piece_count words n = (n + count words - 1) / count words

-- piece i of the first n elements of a part
abbrev pub piece : Bool → ℕ → List ℕ → ℕ → List ℕ
piece words n x i = take (min (count words) (n - i * count words)) (drop (i * count words) x)

-- One compare, at 18h, in words 19h: piece i of x and piece i of y differ.
abbrev pub pieces_differ : Bool → List ℕ → List ℕ → ℕ → Bool
pieces_differ words x y i =
    ltb
    (compare_index words each_negated (piece words (common x y) x i) (piece words (common x y) y i))
    (count words)

-- How many pieces agree before the first that differs, or all.
unfoldable pub agreeing : Bool → List ℕ → List ℕ → ℕ
agreeing words x y = least_below (piece_count words (common x y)) (pieces_differ words x y)
