-- An operand: how many elements it has, what they are, what they stand for, and how many of them
-- are valid.
use Rattle.std.specs.Prelude.{ℕ, suc, ◌+◌, ◌*◌, ◌-◌, ◌^◌, min, Bool, true, false, cond, List, [], ◌∷◌, eqb, ltb, get_or, ℤ, pos, nat_abs, ◌-ℤ◌}
use Rattle.bits.specs.Bits.{tabulate}

-- The two widths. A definition over the width takes it as a truth value, `words`.
abbrev pub in_bytes : Bool
in_bytes = false

abbrev pub in_words : Bool
in_words = true

-- b, how many elements an operand has: 8 words or 16 bytes
abbrev pub count : Bool → ℕ
count words = cond words 8 16

-- word i of sixteen bytes, low byte first
abbrev pub word_at : List ℕ → ℕ → ℕ
word_at bytes i = get_or bytes (2 * i) 0 + 256 * get_or bytes (2 * i + 1) 0

unfoldable pub words_of : List ℕ → List ℕ
words_of bytes = tabulate 8 (word_at bytes)

abbrev pub elements : Bool → List ℕ → List ℕ
elements words bytes = cond words (words_of bytes) bytes

-- how many bits an element has
abbrev pub bits_of : Bool → ℕ
bits_of words = cond words 16 8

-- what an element stands for, in two's complement where signed
abbrev pub value_of : Bool → Bool → ℕ → ℤ
value_of words false x = pos x
value_of words true x =
    cond (ltb x (2 ^ (bits_of words - 1))) (pos x) (pos x -ℤ pos (2 ^ bits_of words))

-- The effective length (document 01: the length in force). Element i is valid when i is below it.

-- explicit: the absolute value of a signed number, cut to b. The number is what a 64-bit register
-- holds, RAX for operand 1 and RDX for operand 2: the forms with REX.W (003, PCMPESTRI and
-- PCMPESTRM, "Effective Operand Size").
unfoldable pub explicit_length : ℕ → ℤ → ℕ
explicit_length b z = min b (nat_abs z)

-- implicit: the index of the first zero element, or the number of elements
abbrev pub implicit_length : List ℕ → ℕ
implicit_length [] = 0
implicit_length (x ∷ xs) = cond (eqb x 0) 0 (suc (implicit_length xs))
