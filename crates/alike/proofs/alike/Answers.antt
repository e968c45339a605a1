-- `alike::alike` meets its contract: a block has eight elements or sixteen, and eight bits above
-- eight others are the bits of one number. Assumes nothing.
use Rattle.std.proofs.Common.{◌≡◌, ◌∙◌, ℕ, ◌<◌, ◌≤◌, Bool, true, false, eqb, get_or, arith}
use Rattle.bits.proofs.Numbers.{number_eight, number_sixteen}
use Rattle.unit.specs.Operand.{count}
use Rattle.alike.proofs.alike.Goals as goal

eight_words : (words : Bool) (n : ℕ) → n ≡ count words → n < 16 → n ≡ 8
eight_words true n e h = e
eight_words false n e h = absurd (omega arith)

sixteen_bytes : (words : Bool) (n : ℕ) → n ≡ count words → 16 ≤ n → n ≡ 16
sixteen_bytes true n e h = absurd (omega arith)
sixteen_bytes false n e h = e

pub returns-then-this-lt16 : goal.returns-then-this-lt16
returns-then-this-lt16 g c =
    let same = λ (j : ℕ). eqb (get_or (g.T.Element.numbers c.args.x.now) j 0) (get_or (g.T.Element.numbers c.args.y.now) j 0) in
    rw (eight_words g.T.Element.words g.row.N (g.met.T.Block.sized ∙ g.T.Element.counted) c.if-this-lt16.true)
    (omega (arith, c.eight.ensures.0, number_eight same))

pub returns : goal.returns
returns g c =
    let same = λ (j : ℕ). eqb (get_or (g.T.Element.numbers c.args.x.now) j 0) (get_or (g.T.Element.numbers c.args.y.now) j 0) in
    rw (sixteen_bytes g.T.Element.words g.row.N (g.met.T.Block.sized ∙ g.T.Element.counted) c.if-this-lt16.false)
    (omega (arith, c.eight-2.ensures.0, c.eight-3.ensures.0, number_sixteen same))
