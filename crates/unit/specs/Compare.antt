-- From the comparisons of single elements to IntRes2 (Intel SSE4 reference, 5.3.1.2, 5.3.1.3 and
-- 5.3.1.5).
use Rattle.std.specs.Prelude.{ℕ, ◌+◌, ◌*◌, ◌-◌, ◌/◌, ◌%◌, Bool, true, false, cond, not, ◌&&◌, List, eqb, ltb, get_or, ℤ}
use Rattle.std.specs.Int.Signed.{le_z}
use Rattle.bits.specs.Bits.{any_below, all_below}
use Rattle.unit.specs.declared.Control.{Control}
use Rattle.unit.specs.declared.Aggregation.{Aggregation}
use Rattle.unit.specs.declared.Aggregation.TheVariants.{EqualAny, Ranges, EqualEach, EqualOrdered}
use Rattle.unit.specs.declared.Polarity.{Polarity}
use Rattle.unit.specs.declared.Polarity.TheVariants.{Positive, Negative, MaskedPositive, MaskedNegative}
use Rattle.unit.specs.Operand.{count, value_of}

-- The two operands as the unit sees them: the control, and of each operand its elements and its
-- effective length.
pub record Operands : Type 0 where
  pub control : Control
  pub elements₁ : List ℕ
  pub length₁ : ℕ
  pub elements₂ : List ℕ
  pub length₂ : ℕ

abbrev pub operands : Control → List ℕ → ℕ → List ℕ → ℕ → Operands
operands k x₁ l₁ x₂ l₂ =
    record {
      control = k;
      elements₁ = x₁;
      length₁ = l₁;
      elements₂ = x₂;
      length₂ = l₂;
    }

-- The comparison of operand 2's element y with operand 1's element x, whose index is even or odd
-- (table 5-2).
abbrev pub compared : Aggregation → (ℕ → ℤ) → Bool → ℕ → ℕ → Bool
compared Ranges value true y x = le_z (value x) (value y)
compared Ranges value false y x = le_z (value y) (value x)
compared EqualAny value even y x = eqb y x
compared EqualEach value even y x = eqb y x
compared EqualOrdered value even y x = eqb y x

-- What a comparison is forced to where an element is invalid (table 5-7): the aggregation, whether
-- operand 1's element is valid, whether operand 2's is, and the comparison.
abbrev pub override : Aggregation → Bool → Bool → Bool → Bool
override a true true r = r
override a true false r = false
override EqualAny false v r = false
override Ranges false v r = false
override EqualEach false v r = not v
override EqualOrdered false v r = true

-- BoolRes[j, i], overridden: operand 2's element j against operand 1's element i.
unfoldable pub bool_res : Operands → ℕ → ℕ → Bool
bool_res o j i =
    override o.control.aggregation (ltb i o.length₁) (ltb j o.length₂)
    (compared o.control.aggregation (value_of o.control.words o.control.signed)
    (eqb (i % 2) 0) (get_or o.elements₂ j 0) (get_or o.elements₁ i 0))

-- Bit j of IntRes1 from BoolRes, for operands of b elements (table 5-3).
abbrev pub aggregated : Aggregation → ℕ → (ℕ → ℕ → Bool) → ℕ → Bool
aggregated EqualAny b r j = any_below b (λ i. r j i)
aggregated Ranges b r j = any_below (b / 2) (λ k. r j (2 * k) && r j (2 * k + 1))
aggregated EqualEach b r j = r j j
aggregated EqualOrdered b r j = all_below (b - j) (λ i. r (j + i) i)

-- Bit j of IntRes1, for j below b (document 01: the first result).
unfoldable pub int_res1 : Operands → ℕ → Bool
int_res1 o j = aggregated o.control.aggregation (count o.control.words) (bool_res o) j

-- Bit j of IntRes2 from whether operand 2's element j is valid and bit j of IntRes1 (table 5-4).
abbrev pub with_polarity : Polarity → Bool → Bool → Bool
with_polarity Positive valid x = x
with_polarity Negative valid x = not x
with_polarity MaskedPositive valid x = x
with_polarity MaskedNegative valid x = cond valid (not x) x

-- Bit j of IntRes2, for j below b. Bits at b and above do not exist.
unfoldable pub int_res2 : Operands → ℕ → Bool
int_res2 o j = with_polarity o.control.polarity (ltb j o.length₂) (int_res1 o j)
