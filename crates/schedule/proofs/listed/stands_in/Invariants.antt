-- What is found so far.
use Rattle.std.proofs.Common.{◌≡◌, eqb, get_or}
use Rattle.bits.specs.Bits.{any_below}
use Rattle.schedule.proofs.listed.stands_in.Given as goal

abbrev pub invariant-loop-other : goal.invariant-loop-other
invariant-loop-other l = l.found ≡ any_below l.other-index (λ k. eqb (get_or l.list k 0) l.number)
