-- `stages::mask::byte_at` meets its contract: what the product is for four bits is computed
-- (MaskBytes.antt), and bit i is one of the four. Assumes nothing.
use Rattle.std.proofs.Common.{◌≡◌, ◌∙◌, refl, ◌<◌, ◌≤◌, ℕ, Bool, true, false, arith}
use Rattle.unit.specs.Operand.{count, in_bytes, in_words}
use Rattle.stages.proofs.MaskBytes.{mask_byte}
use Rattle.stages.proofs.mask.byte_at.Goals as goal

few : (w : Bool) (n : ℕ) → n ≡ count w → n < 16 → w ≡ in_words
few true n e h = refl
few false n e h = absurd (omega arith)

many : (w : Bool) (n : ℕ) → n ≡ count w → 16 ≤ n → w ≡ in_bytes
many true n e h = absurd (omega arith)
many false n e h = refl

pub returns-then-COUNT-lt16 : goal.returns-then-COUNT-lt16
returns-then-COUNT-lt16 g c =
    let t = g.T.Element in
    rw (few t.words c.COUNT.result (c.COUNT.ensures ∙ t.counted) c.if-COUNT-lt16.true)
    (mask_byte in_words c.args.bits c.args.i c.requires)

pub returns-else-COUNT-lt16 : goal.returns-else-COUNT-lt16
returns-else-COUNT-lt16 g c =
    let t = g.T.Element in
    rw (many t.words c.COUNT.result (c.COUNT.ensures ∙ t.counted) c.if-COUNT-lt16.false)
    (mask_byte in_bytes c.args.bits c.args.i c.requires)
