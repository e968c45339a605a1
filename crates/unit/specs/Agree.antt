-- Calls that agree on what the unit may look at. proofs/ValidElements.antt shows that their answers
-- are equal in every bit.
use Rattle.std.specs.Prelude.{ℕ, ◌<◌, ◌≡◌, List, get_or, ℤ}
use Rattle.unit.specs.declared.IndexAnswer.{IndexAnswer}
use Rattle.unit.specs.declared.MaskAnswer.{MaskAnswer}
use Rattle.unit.specs.Control.{control_of}
use Rattle.unit.specs.Compare.{Operands}
use Rattle.unit.specs.Calls.{explicit, implicit, PCMPESTRI, PCMPESTRM, PCMPISTRI, PCMPISTRM}

-- the arguments of a call: explicit with two operands, two lengths and a control, or implicit
pub data Call : Type 0 where
  Explicit : List ℕ → ℤ → List ℕ → ℤ → ℕ → Call
  Implicit : List ℕ → List ℕ → ℕ → Call

-- what the index call, and what the mask call, answers to them
abbrev pub index_call : Call → IndexAnswer
index_call (Explicit x₁ l₁ x₂ l₂ c) = PCMPESTRI x₁ l₁ x₂ l₂ c
index_call (Implicit x₁ x₂ c) = PCMPISTRI x₁ x₂ c

abbrev pub mask_call : Call → MaskAnswer
mask_call (Explicit x₁ l₁ x₂ l₂ c) = PCMPESTRM x₁ l₁ x₂ l₂ c
mask_call (Implicit x₁ x₂ c) = PCMPISTRM x₁ x₂ c

abbrev pub control_byte : Call → ℕ
control_byte (Explicit x₁ l₁ x₂ l₂ c) = c
control_byte (Implicit x₁ x₂ c) = c

-- their elements and effective lengths
abbrev pub operands_of : Call → Operands
operands_of (Explicit x₁ l₁ x₂ l₂ c) = explicit x₁ l₁ x₂ l₂ (control_of c)
operands_of (Implicit x₁ x₂ c) = implicit x₁ x₂ (control_of c)

-- The control is one number, the effective lengths agree, and the valid elements agree.
pub record Agree (p q : Call) : Type 0 where
  pub control : control_byte p ≡ control_byte q
  pub length₁ : (operands_of p).length₁ ≡ (operands_of q).length₁
  pub length₂ : (operands_of p).length₂ ≡ (operands_of q).length₂
  pub valid₁ : (i : ℕ) → i < (operands_of p).length₁
      → get_or (operands_of p).elements₁ i 0 ≡ get_or (operands_of q).elements₁ i 0
  pub valid₂ : (i : ℕ) → i < (operands_of p).length₂
      → get_or (operands_of p).elements₂ i 0 ≡ get_or (operands_of q).elements₂ i 0
