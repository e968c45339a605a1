-- `modes::compare::differ` meets its contract: with one length for both, the valid elements that
-- differ; else equal each with every bit negated. Assumes nothing.
use Rattle.std.proofs.Common.{◌∙◌, ap, ℕ, true, not}
use lib.Bits.{bit_xor}
use Rattle.bits.specs.Bits.{number_of}
use Rattle.bits.proofs.Numbers.{number_xor}
use Rattle.unit.specs.Modes.{each_of}
use Rattle.unit.proofs.Modes.{each_made, differ_made}
use Rattle.modes.proofs.Widths.{most, ones}
use Rattle.modes.proofs.compare.differ.Goals as goal

pub returns-then-l1-l2 : goal.returns-then-l1-l2
returns-then-l1-l2 g c =
    let n = g.row.N in
    let x₁ = g.T.Element.numbers c.args.x1.now in
    let x₂ = g.T.Element.numbers c.args.x2.now in
    let few = most g.T.Element.words n (g.met.T.Block.sized ∙ g.T.Element.counted) in
    differ_made n x₁ x₂ c.args.l1 c.alike-same.result c.first.result c.first-all.result few c.requires.0 (ones n c.first-all.result few c.first-all.ensures) c.alike-same.ensures c.first.ensures
    ∙ ap (λ (l : ℕ). number_of n (λ j. not (each_of x₁ c.args.l1 x₂ l j))) c.if-l1-l2.true

pub returns : goal.returns
returns g c =
    let n = g.row.N in
    let a = c.args in
    let x₁ = g.T.Element.numbers a.x1.now in
    let x₂ = g.T.Element.numbers a.x2.now in
    let few = most g.T.Element.words n (g.met.T.Block.sized ∙ g.T.Element.counted) in
    let all = ones n c.first-all.result few c.first-all.ensures in
    let each = each_made n x₁ a.l1 x₂ a.l2 c.alike-same.result c.first-v1.result c.first-v2.result c.first-all.result few c.requires.0 c.requires.1 all c.alike-same.ensures c.first-v1.ensures c.first-v2.ensures in
    (λ t. bit_xor (each t) (all t)) ∙ number_xor n (each_of x₁ a.l1 x₂ a.l2) (λ j. true)
