-- `alike::eight` meets its contract: the groups of a chain, each above the one before it, are eight
-- bits and what stands above them. Assumes nothing.
use Rattle.std.proofs.Common.{◌≡◌, refl, ℕ, ◌+◌, ◌*◌, ◌<◌, Bool, true, false, cond, arith}
use native.Mathlib.Nat.{add-zero}
use mir.Val.{bool_byte}
use Rattle.alike.proofs.eight.Goals as goal

bit : (t : Bool) → bool_byte t ≡ cond t 1 0
bit true = refl
bit false = refl

small : (t : Bool) → cond t 1 0 < 2
small true = omega arith
small false = omega arith

chain : (above : ℕ) (a b c d e f g h : Bool) → ((above * 4 + (bool_byte g + bool_byte h * 2)) * 8 + (bool_byte d + bool_byte e * 2 + bool_byte f * 4)) * 8 + (bool_byte a + bool_byte b * 2 + bool_byte c * 4) ≡ cond a 1 0 + 2 * (cond b 1 0 + 2 * (cond c 1 0 + 2 * (cond d 1 0 + 2 * (cond e 1 0 + 2 * (cond f 1 0 + 2 * (cond g 1 0 + 2 * (cond h 1 0 + 2 * 0))))))) + 256 * above
chain above a b c d e f g h = omega (arith, bit a, bit b, bit c, bit d, bit e, bit f, bit g, bit h)

chain_small : (above : ℕ) (a b c d e f g h : Bool) → ((above * 4 + (bool_byte g + bool_byte h * 2)) * 8 + (bool_byte d + bool_byte e * 2 + bool_byte f * 4)) * 8 + (bool_byte a + bool_byte b * 2 + bool_byte c * 4) < 256 * above + 256
chain_small above a b c d e f g h = omega (arith, bit a, bit b, bit c, bit d, bit e, bit f, bit g, bit h, small a, small b, small c, small d, small e, small f, small g, small h)

pub returns : goal.returns
returns g c = (
  rw (add-zero c.args.at, c.equal_at-a.ensures, c.equal_at-b.ensures, c.equal_at-a-2.ensures, c.equal_at-b-2.ensures, c.equal_at-c.ensures, c.equal_at-a-3.ensures, c.equal_at-b-3.ensures, c.equal_at-c-2.ensures)
      (chain c.args.above _ _ _ _ _ _ _ _),
  chain_small c.args.above _ _ _ _ _ _ _ _,
)
