-- Each turn stores the last of the digits that are left; the turn that leaves none is the last.
use Rattle.std.proofs.Common.{arith}
use Rattle.decimal.proofs.Stores.{pending_less, pending_none}
use Rattle.decimal.proofs.put_digits.Goals as goal

pub loop-i-preserved : goal.loop-i-preserved
loop-i-preserved c =
    let l = c.loop-i in
    pending_less c.args.number l.i l.rest c.digit.result c.args.places.now l.places (omega arith) (omega arith) c.digit.ensures l.invariant (omega arith)

pub returns-then-rest-eq0 : goal.returns-then-rest-eq0
returns-then-rest-eq0 c =
    let l = c.loop-i in
    pending_none c.args.number l.i l.rest c.digit.result c.args.places.now l.places (omega arith) (omega arith) c.digit.ensures l.invariant c.if-rest-eq0.true
