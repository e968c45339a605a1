-- Every element before i belongs.
use Prim.Native.Nat.{◌≤◌}
use lib.ListN.{length}
use Rattle.spans.proofs.Indexes.{ClearTo}
use Rattle.spans.proofs.length_of_span.Given as goal

abbrev pub invariant-loop-i : goal.invariant-loop-i
invariant-loop-i g l = (l.i ≤ length l.text) × ClearTo g.T.Element.words l.fn.members (g.T.Element.numbers l.list) (g.T.Element.numbers l.text) l.i
