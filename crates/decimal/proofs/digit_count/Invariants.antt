-- Ten times `power` is 10 ^ count, and the number has at least `count` digits, since it is not
-- below the powers passed.
use Rattle.std.proofs.Common.{◌≤◌, ◌≡◌, ◌*◌, ◌^◌, length}
use Rattle.decimal.specs.Decimal.{digits}
use Rattle.decimal.proofs.digit_count.Given as goal

abbrev pub invariant-loop-count : goal.invariant-loop-count
invariant-loop-count l = (l.count ≤ 20) × (l.count ≤ length (digits l.number)) × (l.power * 10 ≡ 10 ^ l.count)
