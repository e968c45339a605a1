-- The first i pieces agree.
use Rattle.scan.proofs.Pieces.{Agreed}
use Rattle.scan.proofs.agree.Given as goal

abbrev pub invariant-loop-i : goal.invariant-loop-i
invariant-loop-i g l = Agreed g.T.Element.words (g.T.Element.numbers l.x) (g.T.Element.numbers l.y) l.i
