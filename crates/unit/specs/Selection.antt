-- Two mask calls that are alike but for bit 6 of the control, output selection: what the byte/word
-- mask of the one has to do with the bit mask of the other (document 02, request 3).
-- proofs/Selection.antt shows it.
use Rattle.std.specs.Prelude.{ℕ, ◌+◌, ◌-◌, ◌/◌, ◌%◌, ◌^◌, ◌<◌, ◌≡◌, Bool, cond, List, eqb, get_or}
use Rattle.unit.specs.declared.MaskAnswer.{MaskAnswer}
use Rattle.unit.specs.Control.{control_of}
use Rattle.unit.specs.Operand.{bits_of, count, elements}
use Rattle.unit.specs.Agree.{Call, Explicit, Implicit, mask_call}

-- a call with another control
abbrev pub with_control : ℕ → Call → Call
with_control d (Explicit x₁ l₁ x₂ l₂ c) = Explicit x₁ l₁ x₂ l₂ d
with_control d (Implicit x₁ x₂ c) = Implicit x₁ x₂ d

-- bit j of a bit mask, low byte first
abbrev pub mask_bit : List ℕ → ℕ → Bool
mask_bit mask j = eqb (get_or mask (j / 8) 0 / 2 ^ (j % 8) % 2) 1

-- an element of all ones, or zero
abbrev pub filled : Bool → Bool → ℕ
filled words set = cond set (2 ^ bits_of words - 1) 0

-- The wide mask is the narrow one widened: element j is all ones where bit j of the narrow mask is
-- set, else zero; so is each of its bytes, byte i belonging to element i, or in words to i / 2.
-- Flags and refusal are equal.
pub record Widened (words : Bool) (narrow wide : MaskAnswer) : Type 0 where
  pub each : (j : ℕ) → j < count words
      → get_or (elements words wide.mask) j 0 ≡ filled words (mask_bit narrow.mask j)
  pub bytes : (i : ℕ) → i < 16
      → get_or wide.mask i 0 ≡ cond (mask_bit narrow.mask (cond words (i / 2) i)) 255 0
  pub flags : narrow.flags ≡ wide.flags
  pub refusal : narrow.refusal ≡ wide.refusal

-- The law, for every call, explicit or implicit, and every control c whose bit 6 is zero, accepted
-- or refused: with the bit set the control is 64 more.
abbrev pub MasksWiden : Type 0
MasksWiden =
    (p : Call) (c : ℕ) → c / 64 % 2 ≡ 0
    → Widened (control_of c).words (mask_call (with_control c p)) (mask_call (with_control (c + 64) p))
