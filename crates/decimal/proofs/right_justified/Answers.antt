-- Accepted, the spaces and the digits after them are the column; refused, nothing is stored.
use Rattle.std.proofs.Common.{arith, rules}
use Rattle.decimal.proofs.Digits.{some_digit}
use Rattle.decimal.proofs.Columns.{filled_accepted, kept_refused}
use Rattle.decimal.proofs.right_justified.Goals as goal

pub accept-requires : goal.accept-requires
accept-requires c = omega (arith, some_digit c.args.number)

pub returns-in_err-accept : goal.returns-in_err-accept
returns-in_err-accept c =
    let a = c.args in
    kept_refused a.number a.width c.digit_count-count.result a.buffer.now c.digit_count-count.ensures c.in_err-accept.field-0.0 (search rules) (search rules)

pub returns : goal.returns
returns c =
    let a = c.args in
    filled_accepted a.number a.width c.digit_count-count.result a.buffer.now c.digit_count-count.ensures c.fill.new.self c.put_digits.new.places (search rules) (search rules) c.put_digits.ensures
