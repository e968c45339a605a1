-- The byte/word mask is the bit mask widened, with equal flags and refusal (specs/Selection.antt).
-- IntRes2 does not depend on bit 6 of the control: the bit mask has its bits, the byte/word mask an
-- element for each. Assumes nothing.
use Prim.Native.Nat.{ℕ, ◌+◌, ◌*◌, ◌/◌, ◌%◌, ◌<◌}
use mathlib.Core.Path.{◌≡◌, refl, sym, ap, ◌∙◌}
use mathlib.Core.Bool.{Bool, true, false, cond}
use mathlib.Core.List.{List, ◌∷◌}
use native.Mathlib.Omega.{arith}
use lib.Dec.{eqb, ltb}
use lib.ListN.{get_or, replicate}
use borrow.Author.Tests.{lt-ltb, le-ltb}
use Rattle.bits.specs.Bits.{number_of, tabulate}
use Rattle.bits.proofs.Below.{by_order}
use Rattle.bits.proofs.Lists.{get_or_tabulate}
use Rattle.bits.proofs.Numbers.{number_set, cut_bit, bit_from, no_bits}
use Rattle.unit.specs.declared.Control.{Control}
use Rattle.unit.specs.declared.MaskAnswer.{MaskAnswer}
use Rattle.unit.specs.Control.{control_of, aggregation_of, polarity_of}
use Rattle.unit.specs.Operand.{count, elements, word_at, words_of}
use Rattle.unit.specs.Compare.{Operands, operands, bool_res, int_res1, int_res2}
use Rattle.unit.specs.Output.{bit_mask, element_mask, mask_of, flags_of, mask_answer, refused_mask}
use Rattle.unit.specs.Calls.{explicit, implicit, PCMPESTRM, PCMPISTRM}
use Rattle.unit.specs.Agree.{Explicit, Implicit}
use Rattle.unit.proofs.Unit.{count_most, element_below}
use Rattle.unit.specs.Selection.{mask_bit, filled, Widened, MasksWiden}

-- ---- the control

-- its fields, with output selection as told
abbrev at : Bool → Control → Control
at high k =
    record { words = k.words; signed = k.signed; aggregation = k.aggregation; polarity = k.polarity; high = high }

narrow_control : (c : ℕ) → c / 64 % 2 ≡ 0 → control_of c ≡ at false (control_of c)
unfolding control_of
narrow_control c e =
    λ t.
    record { words = eqb (c % 2) 1; signed = eqb (c / 2 % 2) 1; aggregation = aggregation_of (c / 4 % 4); polarity = polarity_of (c / 16 % 4); high = eqb (e t) 1 }

-- bits 0 to 5 with 64 more
same_words : (c : ℕ) → (c + 64) % 2 ≡ c % 2
same_words c = omega arith

same_signed : (c : ℕ) → (c + 64) / 2 % 2 ≡ c / 2 % 2
same_signed c = omega arith

same_aggregation : (c : ℕ) → (c + 64) / 4 % 4 ≡ c / 4 % 4
same_aggregation c = omega arith

same_polarity : (c : ℕ) → (c + 64) / 16 % 4 ≡ c / 16 % 4
same_polarity c = omega arith

wide_control : (c : ℕ) → c / 64 % 2 ≡ 0 → control_of (c + 64) ≡ at true (control_of c)
unfolding control_of
wide_control c e =
    let h : (c + 64) / 64 % 2 ≡ 1 = omega arith in
    λ t.
    record { words = eqb (same_words c t) 1; signed = eqb (same_signed c t) 1; aggregation = aggregation_of (same_aggregation c t); polarity = polarity_of (same_polarity c t); high = eqb (h t) 1 }

-- accepted with the bit where it is accepted without it
accepted_alike : (c : ℕ) → c / 64 % 2 ≡ 0 → ltb (c + 64) 128 ≡ ltb c 128
accepted_alike c e =
    by_order c 128 (λ h. rw (lt-ltb c 128 h) (lt-ltb (c + 64) 128 (omega arith)))
    (λ h. rw (le-ltb c 128 h) (le-ltb (c + 64) 128 (omega arith)))

-- ---- the masks of bits p

abbrev narrow : Bool → (ℕ → Bool) → List ℕ
narrow w p = (number_of (count w) p % 256) ∷ (number_of (count w) p / 256 % 256) ∷ replicate 14 0

abbrev wide : Bool → (ℕ → Bool) → List ℕ
wide w p = tabulate 16 (λ i. cond (p (cond w (i / 2) i)) 255 0)

narrow_bit : (w : Bool) (p : ℕ → Bool) (j : ℕ) → j < count w → mask_bit (narrow w p) j ≡ p j
narrow_bit w p j h =
    let n = number_of (count w) p in
    let back = number_set (count w) j p h in
    by_order j 8
    (λ g.
    let a : j / 8 ≡ 0 = omega arith in
    let b : j % 8 ≡ j = omega arith in
    rw (a, b) (ap (λ (m : ℕ). eqb m 1) (cut_bit n 8 j g) ∙ back))
    (λ g.
    let a : j / 8 ≡ 1 = omega (arith, count_most w) in
    let b : 8 + j % 8 ≡ j = omega (arith, count_most w) in
    rw a (ap (λ (m : ℕ). eqb m 1) (bit_from n 8 8 (j % 8) j (omega arith) b) ∙ back))

both_bytes : (t : Bool) → cond t 255 0 + 256 * cond t 255 0 ≡ cond t 65535 0
both_bytes true = refl
both_bytes false = refl

wide_byte : (w : Bool) (p : ℕ → Bool) (i : ℕ) → i < 16 → get_or (wide w p) i 0 ≡ cond (p (cond w (i / 2) i)) 255 0
wide_byte w p i h = get_or_tabulate {A = ℕ} 16 i (λ n. cond (p (cond w (n / 2) n)) 255 0) 0 h

wide_element : (w : Bool) (p : ℕ → Bool) (j : ℕ) → j < count w → get_or (elements w (wide w p)) j 0 ≡ filled w (p j)
unfolding words_of
wide_element true p j h =
    let a : 2 * j / 2 ≡ j = omega arith in
    let b : (2 * j + 1) / 2 ≡ j = omega arith in
    get_or_tabulate 8 j (word_at (wide true p)) 0 h
    ∙ rw (wide_byte true p (2 * j) (omega arith), wide_byte true p (2 * j + 1) (omega arith), a, b) (both_bytes (p j))
wide_element false p j h = wide_byte false p j h

-- ---- the answers

module _ (k : Control) (x₁ : List ℕ) (l₁ : ℕ) (x₂ : List ℕ) (l₂ : ℕ) where
  abbrev of : Bool → Operands
  of high = operands (at high k) x₁ l₁ x₂ l₂

  answers_widen : Widened k.words (mask_answer (of false)) (mask_answer (of true))
  unfolding mask_of bit_mask element_mask flags_of int_res2 int_res1 bool_res
  answers_widen =
      record {
        each = λ j h. wide_element k.words (int_res2 (of true)) j h ∙ ap (filled k.words) (sym (narrow_bit k.words (int_res2 (of false)) j h));
        bytes = λ i h. wide_byte k.words (int_res2 (of true)) i h ∙ ap (λ (t : Bool). cond t 255 0) (sym (narrow_bit k.words (int_res2 (of false)) (cond k.words (i / 2) i) (element_below k.words i h)));
        flags = refl;
        refusal = refl;
      }

-- refused, both masks are those of no bit
refused_bit : (w : Bool) (j : ℕ) → j < count w → mask_bit (replicate 16 0) j ≡ false
refused_bit w j h =
    ap (λ (n : ℕ). mask_bit (n % 256 ∷ n / 256 % 256 ∷ replicate 14 0) j) (no_bits (count w)) ∙ narrow_bit w (λ i. false) j h

refused_widen : (w : Bool) → Widened w refused_mask refused_mask
unfolding tabulate
refused_widen w =
    record {
      each = λ j h. wide_element w (λ i. false) j h ∙ ap (filled w) (sym (refused_bit w j h));
      bytes = λ i h. wide_byte w (λ j. false) i h ∙ ap (λ (t : Bool). cond t 255 0) (sym (refused_bit w (cond w (i / 2) i) (element_below w i h)));
      flags = refl;
      refusal = refl;
    }

-- a mask call at control c, f giving the operands for the control's fields
abbrev answer : (Control → Operands) → ℕ → MaskAnswer
answer f c = cond (ltb c 128) (mask_answer (f (control_of c))) refused_mask

-- accepted or not
either : (w t : Bool) (a b : MaskAnswer) → Widened w a b → Widened w (cond t a refused_mask) (cond t b refused_mask)
either w true a b h = h
either w false a b h = refused_widen w

calls_widen : (f : Control → Operands) (c : ℕ) → c / 64 % 2 ≡ 0 → Widened (control_of c).words (mask_answer (f (at false (control_of c)))) (mask_answer (f (at true (control_of c)))) → Widened (control_of c).words (answer f c) (answer f (c + 64))
calls_widen f c e h =
    let k = control_of c in
    let n : answer f c ≡ cond (ltb c 128) (mask_answer (f (at false k))) refused_mask = λ t. cond (ltb c 128) (mask_answer (f (narrow_control c e t))) refused_mask in
    let d : answer f (c + 64) ≡ cond (ltb c 128) (mask_answer (f (at true k))) refused_mask = λ t. cond (accepted_alike c e t) (mask_answer (f (wide_control c e t))) refused_mask in
    rw (n, d) (either k.words (ltb c 128) (mask_answer (f (at false k))) (mask_answer (f (at true k))) h)

-- ---- the law

pub masks_widen : MasksWiden
unfolding PCMPESTRM PCMPISTRM
masks_widen (Explicit x₁ l₁ x₂ l₂ d) c e =
    let o = explicit x₁ l₁ x₂ l₂ (control_of c) in
    calls_widen (explicit x₁ l₁ x₂ l₂) c e (answers_widen (control_of c) o.elements₁ o.length₁ o.elements₂ o.length₂)
masks_widen (Implicit x₁ x₂ d) c e =
    let o = implicit x₁ x₂ (control_of c) in
    calls_widen (implicit x₁ x₂) c e (answers_widen (control_of c) o.elements₁ o.length₁ o.elements₂ o.length₂)
