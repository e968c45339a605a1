-- What is made of IntRes2: the index, the mask and the flags (Intel SSE4 reference, 5.3.1.4 and the
-- four instruction pages).
use Rattle.std.specs.Prelude.{ℕ, ◌/◌, ◌%◌, false, cond, List, ◌∷◌, ltb, replicate}
use Rattle.bits.specs.Bits.{any_below, least_below, greatest_below, number_of, tabulate}
use Rattle.unit.specs.declared.Flags.{Flags}
use Rattle.unit.specs.declared.IndexAnswer.{IndexAnswer}
use Rattle.unit.specs.declared.MaskAnswer.{MaskAnswer}
use Rattle.unit.specs.Operand.{count}
use Rattle.unit.specs.Compare.{Operands, int_res2}

-- The index of the least significant set bit, or with output selection of the most significant; b
-- if no bit is set (table 5-5).
unfoldable pub index_of : Operands → ℕ
index_of o =
    cond o.control.high
    (greatest_below (count o.control.words) (int_res2 o) (count o.control.words))
    (least_below (count o.control.words) (int_res2 o))

-- IntRes2 in the first two bytes, low byte first, zero extended (table 5-6, bit mask).
unfoldable pub bit_mask : Operands → List ℕ
bit_mask o =
    (number_of (count o.control.words) (int_res2 o) % 256)
    ∷ (number_of (count o.control.words) (int_res2 o) / 256 % 256) ∷ replicate 14 0

-- Each bit of IntRes2 fills its element: byte i belongs to element i, or in words to element i / 2
-- (table 5-6, byte/word mask).
unfoldable pub element_mask : Operands → List ℕ
element_mask o = tabulate 16 (λ i. cond (int_res2 o (cond o.control.words (i / 2) i)) 255 0)

unfoldable pub mask_of : Operands → List ℕ
mask_of o = cond o.control.high (element_mask o) (bit_mask o)

-- CF: some bit of IntRes2 is set. ZF and SF: operand 2, and operand 1, has fewer than b valid
-- elements. OF: bit 0 of IntRes2. AF and PF: reset.
unfoldable pub flags_of : Operands → Flags
flags_of o =
    record {
      carry = any_below (count o.control.words) (int_res2 o);
      zero = ltb o.length₂ (count o.control.words);
      sign = ltb o.length₁ (count o.control.words);
      overflow = int_res2 o 0;
      auxiliary = false;
      parity = false;
    }

-- what an accepted call answers
abbrev pub index_answer : Operands → IndexAnswer
index_answer o = record { refusal = 0; index = index_of o; flags = flags_of o }

abbrev pub mask_answer : Operands → MaskAnswer
mask_answer o = record { refusal = 0; mask = mask_of o; flags = flags_of o }

-- what a refused call answers: number 1, and every other field zero or false
abbrev pub no_flags : Flags
no_flags =
    record {
      carry = false;
      zero = false;
      sign = false;
      overflow = false;
      auxiliary = false;
      parity = false;
    }

abbrev pub refused_index : IndexAnswer
refused_index = record { refusal = 1; index = 0; flags = no_flags }

abbrev pub refused_mask : MaskAnswer
refused_mask = record { refusal = 1; mask = replicate 16 0; flags = no_flags }
