-- The bits of the valid elements of x2 that are among the first i of x1.
use Rattle.std.proofs.Common.{◌≡◌}
use Rattle.bits.specs.Bits.{number_of}
use Rattle.unit.specs.Modes.{any_of}
use Rattle.modes.proofs.compare.equal_any.Given as goal

abbrev pub invariant-loop-i : goal.invariant-loop-i
invariant-loop-i g l = l.found ≡ number_of g.row.N (any_of (g.T.Element.numbers l.x1) l.i (g.T.Element.numbers l.x2) l.l2)
