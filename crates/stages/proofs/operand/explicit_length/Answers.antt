-- `stages::operand::explicit_length` meets its contract: b is at most 16, so what was cut to 16 is
-- cut to b. Assumes nothing.
use mir.Syntax.{w64}
use mir.ValLaws.{to_z-of_z}
use native.Mathlib.Omega.{arith}
use Rattle.unit.specs.Operand.{explicit_length}
use Rattle.unit.proofs.Unit.{count_most}
use Rattle.stages.proofs.operand.explicit_length.Goals as goal

pub returns : goal.returns
unfolding explicit_length
returns c =
    omega (arith, c.min.ensures, c.count_of.ensures, count_most c.args.words, rw (to_z-of_z w64 c.args.length c.ranges.length) at c.magnitude.ensures)
