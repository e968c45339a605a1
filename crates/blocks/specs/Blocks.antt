-- A text and its parts, as the unit takes them. `words` is the width, `in_bytes` or `in_words`.
use Rattle.std.specs.Prelude.{ℕ, zero, suc, ◌+◌, ◌*◌, ◌/◌, ◌%◌, Bool, cond, List, eqb, length, get_or, min, set, pos}
use Rattle.bits.specs.Bits.{tabulate}
use Rattle.unit.specs.Calls.{PCMPESTRI}

-- the most elements of a text
abbrev pub longest_text : ℕ
longest_text = 1048576

-- ---- the operand of a part

-- byte i of the operand: the part's elements, a word's low byte first, and zero past the part's end
abbrev pub operand_byte : Bool → List ℕ → ℕ → ℕ
operand_byte words x i =
    cond words (cond (eqb (i % 2) 0) (get_or x (i / 2) 0 % 256) (get_or x (i / 2) 0 / 256)) (get_or x i 0)

unfoldable pub operand_of : Bool → List ℕ → List ℕ
operand_of words x = tabulate 16 (operand_byte words x)

-- an operand after k stores from its front on, byte i from f
abbrev pub stores : (ℕ → ℕ) → ℕ → List ℕ → List ℕ
stores f zero bytes = bytes
stores f (suc k) bytes = set (stores f k bytes) k (f k)

-- how many bytes a part of n elements fills
abbrev pub fill_length : Bool → ℕ → ℕ
fill_length words n = cond words (2 * min n 8) (min n 16)

-- ---- one compare

-- The index of the unit's call for two operands and two lengths. c is the control in bytes.
abbrev pub index_at : Bool → ℕ → List ℕ → ℕ → List ℕ → ℕ → ℕ
index_at words c x l y m = (PCMPESTRI x (pos l) y (pos m) (c + cond words 1 0)).index

-- A compare is a call of the unit: the index that it answers for two parts, each at its own length.
-- c is the control in bytes.
unfoldable pub compare_index : Bool → ℕ → List ℕ → List ℕ → ℕ
compare_index words c x y =
    index_at words c (operand_of words x) (length x) (operand_of words y) (length y)

-- equal ordered, least: where the first part stands in the second
abbrev pub ordered : ℕ
ordered = 0x0C

-- equal each, negated, least: where two parts first differ
abbrev pub each_negated : ℕ
each_negated = 0x18
