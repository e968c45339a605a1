-- The texts do not differ before i.
use Prim.Native.Nat.{◌≤◌}
use Rattle.orders.proofs.Indexes.{ClearTo}
use Rattle.orders.proofs.difference.Given as goal

abbrev pub invariant-loop-i : goal.invariant-loop-i
invariant-loop-i g l = (l.i ≤ l.n) × ClearTo (g.T.Element.numbers l.first) (g.T.Element.numbers l.second) l.i
