-- `stages::negation::negated` meets its contract, polarity by polarity: no bit, all b bits, or
-- those of the valid elements. Assumes nothing.
use mathlib.Core.Path.{ap, ◌∙◌}
use Prim.Native.Nat.{ℕ, min}
use lib.Dec.{ltb}
use Rattle.bits.specs.Bits.{number_of}
use Rattle.bits.proofs.Numbers.{no_bits}
use Rattle.unit.specs.Operand.{count}
use Rattle.unit.proofs.Unit.{count_most, negated_all, negated_valid}
use Rattle.stages.proofs.negation.negated.Goals as goal

pub returns-in-Positive : goal.returns-in-Positive
returns-in-Positive g c = rw c.in-Positive.is (no_bits (count g.T.Element.words))

pub returns-in-Negative : goal.returns-in-Negative
returns-in-Negative g c =
    let w = g.T.Element.words in
    rw c.in-Negative.is
    (negated_all (count w) c.args.l2 c.first.result (count_most w)
    (c.first.ensures ∙ ap (λ (n : ℕ). number_of 16 (λ j. ltb j n)) (c.COUNT.ensures ∙ g.T.Element.counted)))

pub returns-in-MaskedPositive : goal.returns-in-MaskedPositive
returns-in-MaskedPositive g c = rw c.in-MaskedPositive.is (no_bits (count g.T.Element.words))

pub returns-in-MaskedNegative : goal.returns-in-MaskedNegative
returns-in-MaskedNegative g c =
    let w = g.T.Element.words in
    rw c.in-MaskedNegative.is
    (negated_valid (count w) c.args.l2 c.first-in-MaskedNegative.result (count_most w)
    (c.first-in-MaskedNegative.ensures ∙ ap (λ (n : ℕ). number_of 16 (λ j. ltb j n)) (c.min.ensures ∙ ap (λ (n : ℕ). min n c.args.l2) (c.COUNT-in-MaskedNegative.ensures ∙ g.T.Element.counted))))
