-- The number has no more than `count` digits once it is below the next power, or once `count` is
-- 20: every number of 64 bits is below 10 ^ 20.
use Rattle.std.proofs.Common.{ℕ, ◌+◌, ◌*◌, ◌^◌, ◌≡◌, add-one, arith, refl}
use Rattle.decimal.proofs.Digits.{some_digit, fits_width, fits_not}
use native.Mathlib.Nat.{pow-suc}
use Rattle.decimal.proofs.digit_count.Goals as goal

-- the next power
next_power : (power count : ℕ) → power * 10 ≡ 10 ^ count → power * 10 * 10 ≡ 10 ^ (count + 1)
next_power power count e = rw (add-one, pow-suc, e)

pub loop-count-init : goal.loop-count-init
loop-count-init c = (omega arith, some_digit c.args.number, refl)

pub returns-then-number-power : goal.returns-then-number-power
returns-then-number-power c = omega (arith, fits_width c.loop-count.count c.args.number (omega arith) (omega arith))

pub loop-count-preserved : goal.loop-count-preserved
loop-count-preserved c =
    (omega arith, omega (arith, fits_not c.loop-count.count c.args.number (omega arith)), next_power c.loop-count.power c.loop-count.count c.loop-count.invariant.2)

pub returns : goal.returns
returns c = omega (arith, fits_width 20 c.args.number (omega arith) (omega arith))
