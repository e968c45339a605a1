-- The fields of the control byte, imm8 (Intel SSE4 reference, 5.3.1.1 to 5.3.1.4). `Control`,
-- `Aggregation` and `Polarity` are the types of src/lib.rt.
use Rattle.std.specs.Prelude.{ℕ, zero, suc, ◌/◌, ◌%◌, eqb}
use Rattle.unit.specs.declared.Control.{Control}
use Rattle.unit.specs.declared.Aggregation.{Aggregation}
use Rattle.unit.specs.declared.Aggregation.TheVariants.{EqualAny, Ranges, EqualEach, EqualOrdered}
use Rattle.unit.specs.declared.Polarity.{Polarity}
use Rattle.unit.specs.declared.Polarity.TheVariants.{Positive, Negative, MaskedPositive, MaskedNegative}

-- Bits 3:2, aggregation operation (table 5-2).
abbrev pub aggregation_of : ℕ → Aggregation
aggregation_of zero = EqualAny
aggregation_of (suc zero) = Ranges
aggregation_of (suc (suc zero)) = EqualEach
aggregation_of (suc (suc (suc n))) = EqualOrdered

-- Bits 5:4, polarity (table 5-4).
abbrev pub polarity_of : ℕ → Polarity
polarity_of zero = Positive
polarity_of (suc zero) = Negative
polarity_of (suc (suc zero)) = MaskedPositive
polarity_of (suc (suc (suc n))) = MaskedNegative

-- Bit 0 and bit 1, source data format (table 5-1): words or bytes, signed or not. Bit 6, output
-- selection (tables 5-5 and 5-6).
unfoldable pub control_of : ℕ → Control
control_of c =
    record {
      words = eqb (c % 2) 1;
      signed = eqb (c / 2 % 2) 1;
      aggregation = aggregation_of (c / 4 % 4);
      polarity = polarity_of (c / 16 % 4);
      high = eqb (c / 64 % 2) 1;
    }
