-- The positions found so far, then the fill of the places left, make up the whole fill.
use Prim.Native.Nat.{◌+◌, ◌-◌}
use lib.ListN.{length}
use Rattle.search.proofs.Fills.{Going}
use Rattle.search.proofs.Cursor.walk.Given as goal

abbrev pub invariant-loop-at : goal.invariant-loop-at
invariant-loop-at g l =
    Going g.T.Element.words (g.T.Element.numbers l.text) (g.T.Element.numbers l.needle) l.initial.positions l.initial.from l.from l.at l.k l.positions

abbrev pub decreases-loop-at : goal.decreases-loop-at
decreases-loop-at g l = length l.text + 2 - l.at.position
