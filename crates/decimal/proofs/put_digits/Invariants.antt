-- Put into the places that are left, the digits that are left make what the contract says.
use Rattle.decimal.proofs.Stores.{Pending}
use Rattle.decimal.proofs.put_digits.Given as goal

abbrev pub invariant-loop-i : goal.invariant-loop-i
invariant-loop-i l = Pending l.number l.fn.places l.i l.rest l.places
