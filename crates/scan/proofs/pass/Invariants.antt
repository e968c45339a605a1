-- The blocks passed have index b.
use Rattle.scan.specs.Letters.{Passed}
use Rattle.scan.proofs.pass.Given as goal

abbrev pub invariant-loop-i : goal.invariant-loop-i
invariant-loop-i g l = Passed g.T.Element.words l.operand1 l.l (g.T.Element.numbers l.part) l.i
