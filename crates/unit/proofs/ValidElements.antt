-- Any two index calls, and any two mask calls, explicit or implicit, that agree on the control, the
-- effective lengths and the valid elements (specs/Agree.antt) answer alike in every bit: a
-- comparison counts only where both of its elements are valid (Forced.antt). Assumes nothing.
use Prim.Native.Nat.{ℕ, ◌<◌, ◌/◌, ◌%◌}
use mathlib.Core.Path.{◌≡◌, refl, sym, ap, ◌∙◌}
use mathlib.Core.Bool.{Bool, false, cond}
use mathlib.Core.List.{List, ◌∷◌}
use lib.Dec.{eqb, ltb}
use lib.ListN.{get_or, replicate}
use borrow.Author.Tests.{ltb-true}
use Rattle.bits.specs.Bits.{any_below, least_below, greatest_below, number_of, tabulate}
use Rattle.unit.specs.declared.Control.{Control}
use Rattle.unit.specs.Control.{control_of}
use Rattle.unit.specs.Operand.{count, value_of}
use Rattle.unit.specs.Compare.{Operands, operands, compared, aggregated, with_polarity, bool_res, int_res1, int_res2}
use Rattle.unit.specs.Output.{index_of, bit_mask, element_mask, mask_of, flags_of, index_answer, mask_answer, refused_index, refused_mask}
use Rattle.unit.specs.Calls.{PCMPESTRI, PCMPESTRM, PCMPISTRI, PCMPISTRM}
use Rattle.unit.specs.Agree.{Call, Explicit, Implicit, index_call, mask_call, control_byte, operands_of, Agree}
use Rattle.unit.proofs.Forced.{valid_only}

-- operands that differ in invalid elements only
module _ (k : Control) (l₁ l₂ : ℕ) (x₁ x₂ y₁ y₂ : List ℕ) (p : (i : ℕ) → i < l₁ → get_or x₁ i 0 ≡ get_or y₁ i 0) (q : (i : ℕ) → i < l₂ → get_or x₂ i 0 ≡ get_or y₂ i 0) where
  bool_same : (j i : ℕ) → bool_res (operands k x₁ l₁ x₂ l₂) j i ≡ bool_res (operands k y₁ l₁ y₂ l₂) j i
  unfolding bool_res
  bool_same j i =
      valid_only k.aggregation (ltb i l₁) (ltb j l₂) _ _
      (λ v w t.
      compared k.aggregation (value_of k.words k.signed) (eqb (i % 2) 0) (q j (ltb-true j l₂ w) t) (p i (ltb-true i l₁ v) t))

  first_same : (j : ℕ) → int_res1 (operands k x₁ l₁ x₂ l₂) j ≡ int_res1 (operands k y₁ l₁ y₂ l₂) j
  unfolding int_res1
  first_same j t = aggregated k.aggregation (count k.words) (λ m i. bool_same m i t) j

  pub bits_same : int_res2 (operands k x₁ l₁ x₂ l₂) ≡ int_res2 (operands k y₁ l₁ y₂ l₂)
  unfolding int_res2
  bits_same t j = with_polarity k.polarity (ltb j l₂) (first_same j t)

  index_same : index_answer (operands k x₁ l₁ x₂ l₂) ≡ index_answer (operands k y₁ l₁ y₂ l₂)
  unfolding index_of flags_of
  index_same =
      ap
      (λ (b : ℕ → Bool). record { refusal = 0; index = cond k.high (greatest_below (count k.words) b (count k.words)) (least_below (count k.words) b); flags = record { carry = any_below (count k.words) b; zero = ltb l₂ (count k.words); sign = ltb l₁ (count k.words); overflow = b 0; auxiliary = false; parity = false } })
      bits_same

  mask_same : mask_answer (operands k x₁ l₁ x₂ l₂) ≡ mask_answer (operands k y₁ l₁ y₂ l₂)
  unfolding mask_of bit_mask element_mask flags_of
  mask_same =
      ap
      (λ (b : ℕ → Bool). record { refusal = 0; mask = cond k.high (tabulate 16 (λ i. cond (b (cond k.words (i / 2) i)) 255 0)) ((number_of (count k.words) b % 256) ∷ (number_of (count k.words) b / 256 % 256) ∷ replicate 14 0); flags = record { carry = any_below (count k.words) b; zero = ltb l₂ (count k.words); sign = ltb l₁ (count k.words); overflow = b 0; auxiliary = false; parity = false } })
      bits_same

-- a call answers for its control and its operands
index_of_lem : (p : Call) → index_call p ≡ cond (ltb (control_byte p) 128) (index_answer (operands_of p)) refused_index
unfolding PCMPESTRI PCMPISTRI
index_of_lem (Explicit x₁ l₁ x₂ l₂ c) = refl
index_of_lem (Implicit x₁ x₂ c) = refl

mask_of_lem : (p : Call) → mask_call p ≡ cond (ltb (control_byte p) 128) (mask_answer (operands_of p)) refused_mask
unfolding PCMPESTRM PCMPISTRM
mask_of_lem (Explicit x₁ l₁ x₂ l₂ c) = refl
mask_of_lem (Implicit x₁ x₂ c) = refl

control_of_lem : (p : Call) → (operands_of p).control ≡ control_of (control_byte p)
control_of_lem (Explicit x₁ l₁ x₂ l₂ c) = refl
control_of_lem (Implicit x₁ x₂ c) = refl

module _ (p q : Call) (h : Agree p q) where
  same_control : (operands_of p).control ≡ (operands_of q).control
  same_control = control_of_lem p ∙ ap control_of h.control ∙ sym (control_of_lem q)

  -- p's elements under q's control and lengths
  abbrev meeting : Operands
  meeting =
      operands (operands_of q).control (operands_of p).elements₁ (operands_of q).length₁ (operands_of p).elements₂ (operands_of q).length₂

  to_meeting : operands_of p ≡ meeting
  to_meeting t =
      operands (same_control t) (operands_of p).elements₁ (h.length₁ t) (operands_of p).elements₂ (h.length₂ t)

  agree₁ : (i : ℕ) → i < (operands_of q).length₁ → get_or (operands_of p).elements₁ i 0 ≡ get_or (operands_of q).elements₁ i 0
  agree₁ i u = h.valid₁ i (rw h.length₁ u)

  agree₂ : (i : ℕ) → i < (operands_of q).length₂ → get_or (operands_of p).elements₂ i 0 ≡ get_or (operands_of q).elements₂ i 0
  agree₂ i u = h.valid₂ i (rw h.length₂ u)

  same_index : index_answer (operands_of p) ≡ index_answer (operands_of q)
  same_index =
      ap index_answer to_meeting
      ∙ index_same (operands_of q).control (operands_of q).length₁ (operands_of q).length₂ (operands_of p).elements₁ (operands_of p).elements₂ (operands_of q).elements₁ (operands_of q).elements₂ agree₁ agree₂

  same_mask : mask_answer (operands_of p) ≡ mask_answer (operands_of q)
  same_mask =
      ap mask_answer to_meeting
      ∙ mask_same (operands_of q).control (operands_of q).length₁ (operands_of q).length₂ (operands_of p).elements₁ (operands_of p).elements₂ (operands_of q).elements₁ (operands_of q).elements₂ agree₁ agree₂

  -- The theorem, for index calls and for mask calls. Above 127 both are refused, so they answer
  -- alike too.
  pub index_by_valid_elements : index_call p ≡ index_call q
  index_by_valid_elements =
      index_of_lem p
      ∙ (λ t. cond (ltb (h.control t) 128) (same_index t) refused_index)
      ∙ sym (index_of_lem q)

  pub mask_by_valid_elements : mask_call p ≡ mask_call q
  mask_by_valid_elements =
      mask_of_lem p
      ∙ (λ t. cond (ltb (h.control t) 128) (same_mask t) refused_mask)
      ∙ sym (mask_of_lem q)
