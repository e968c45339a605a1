-- The row marks the elements of x2 that lie in one of the first i ranges.
use Rattle.std.proofs.Common.{◌≡◌, ◌-◌, ◌^◌}
use Rattle.unit.specs.Operand.{bits_of, value_of}
use Rattle.unit.proofs.Modes.{row_to}
use Rattle.modes.proofs.compare.ranges.Given as goal

abbrev pub invariant-loop-i : goal.invariant-loop-i
invariant-loop-i g l =
    g.T.Element.numbers l.row
    ≡ row_to g.row.N (2 ^ bits_of g.T.Element.words - 1) (value_of g.T.Element.words l.signed) (g.T.Element.numbers l.x1) (g.T.Element.numbers l.x2) l.i
