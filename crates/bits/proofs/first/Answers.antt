-- 2 ^ n - 1 is the number of the bits below n, and 65535 that of all sixteen. Assumes nothing.
use Rattle.std.proofs.Common.{arith, sym, ◌∙◌}
use Rattle.bits.proofs.Numbers.{number_first, shifted_one, every_bit, sixteen_ones}
use Rattle.bits.proofs.first.Goals as goal

pub returns-then-n-lt16 : goal.returns-then-n-lt16
returns-then-n-lt16 c = omega (arith, shifted_one c.args.n (omega arith), number_first 16 c.args.n (omega arith))

pub returns-else-n-lt16 : goal.returns-else-n-lt16
returns-else-n-lt16 c = sixteen_ones ∙ sym (every_bit 16 c.args.n (omega arith))
