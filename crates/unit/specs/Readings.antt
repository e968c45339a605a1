-- IntRes2 as one number, and what is read off it: for the contracts of the crates `modes` and
-- `stages`. A reader of the calls needs none of it.
use Rattle.std.specs.Prelude.{ℕ, ◌-◌, ◌/◌, ◌%◌, ◌^◌, Bool, false, cond, not, List, ◌∷◌, eqb, ltb, replicate}
use Rattle.std.specs.Int.Count.{count_leading_zeros, count_trailing_zeros}
use Rattle.bits.specs.Bits.{number_of, tabulate}
use Rattle.unit.specs.declared.Compared.{Compared}
use Rattle.unit.specs.declared.Flags.{Flags}
use Rattle.unit.specs.Operand.{count}
use Rattle.unit.specs.Compare.{Operands, int_res2}

-- IntRes2 as a number, with the effective lengths
abbrev pub compared_of : Operands → Compared
compared_of o =
    record {
      bits = number_of (count o.control.words) (int_res2 o);
      length1 = o.length₁;
      length2 = o.length₂;
    }

-- the flags, for operands of b elements
abbrev pub flags_read : ℕ → Compared → Flags
flags_read b t =
    record {
      carry = not (eqb t.bits 0);
      zero = ltb t.length2 b;
      sign = ltb t.length1 b;
      overflow = eqb (t.bits % 2) 1;
      auxiliary = false;
      parity = false;
    }

-- the greatest set bit, or the least; b if none is set
abbrev pub index_read : Bool → ℕ → ℕ → ℕ
index_read high b n =
    cond high (cond (eqb n 0) b (31 - count_leading_zeros 32 n)) (cond (eqb n 0) b (count_trailing_zeros 32 n))

-- byte i of the byte/word mask: all ones where the bit of its element is set
abbrev pub byte_read : Bool → ℕ → ℕ → ℕ
byte_read words n i = cond (eqb (n / 2 ^ (cond words (i / 2) i) % 2) 1) 255 0

-- the byte/word mask, and the mask that the output selection asks for
abbrev pub element_read : Bool → ℕ → List ℕ
element_read words n = tabulate 16 (byte_read words n)

abbrev pub mask_read : Bool → Bool → ℕ → List ℕ
mask_read high words n =
    cond high (element_read words n) ((n % 256) ∷ (n / 256 % 256) ∷ replicate 14 0)
