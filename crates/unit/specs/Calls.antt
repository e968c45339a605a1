-- The four calls, each named after the instruction that it is. A control above 127 is refused.
use Rattle.std.specs.Prelude.{ℕ, cond, List, ltb, ℤ}
use Rattle.unit.specs.declared.Control.{Control}
use Rattle.unit.specs.declared.IndexAnswer.{IndexAnswer}
use Rattle.unit.specs.declared.MaskAnswer.{MaskAnswer}
use Rattle.unit.specs.Control.{control_of}
use Rattle.unit.specs.Operand.{count, elements, explicit_length, implicit_length}
use Rattle.unit.specs.Compare.{Operands, operands}
use Rattle.unit.specs.Output.{index_answer, mask_answer, refused_index, refused_mask}

-- the operands of an explicit call, x₁ and x₂ sixteen bytes each
abbrev pub explicit : List ℕ → ℤ → List ℕ → ℤ → Control → Operands
explicit x₁ l₁ x₂ l₂ k =
    operands k (elements k.words x₁) (explicit_length (count k.words) l₁)
    (elements k.words x₂) (explicit_length (count k.words) l₂)

-- the operands of an implicit call
abbrev pub implicit : List ℕ → List ℕ → Control → Operands
implicit x₁ x₂ k =
    operands k (elements k.words x₁) (implicit_length (elements k.words x₁))
    (elements k.words x₂) (implicit_length (elements k.words x₂))

unfoldable pub PCMPESTRI : List ℕ → ℤ → List ℕ → ℤ → ℕ → IndexAnswer
PCMPESTRI x₁ l₁ x₂ l₂ c =
    cond (ltb c 128) (index_answer (explicit x₁ l₁ x₂ l₂ (control_of c))) refused_index

unfoldable pub PCMPESTRM : List ℕ → ℤ → List ℕ → ℤ → ℕ → MaskAnswer
PCMPESTRM x₁ l₁ x₂ l₂ c =
    cond (ltb c 128) (mask_answer (explicit x₁ l₁ x₂ l₂ (control_of c))) refused_mask

unfoldable pub PCMPISTRI : List ℕ → List ℕ → ℕ → IndexAnswer
PCMPISTRI x₁ x₂ c = cond (ltb c 128) (index_answer (implicit x₁ x₂ (control_of c))) refused_index

unfoldable pub PCMPISTRM : List ℕ → List ℕ → ℕ → MaskAnswer
PCMPISTRM x₁ x₂ c = cond (ltb c 128) (mask_answer (implicit x₁ x₂ (control_of c))) refused_mask
