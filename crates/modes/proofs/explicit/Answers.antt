-- `modes::explicit` meets its contract: the effective length gives itself. Assumes nothing.
use Rattle.std.proofs.Common.{◌∙◌, ap}
use mir.Syntax.{w64}
use mir.ValLaws.{to_z-of_z}
use Rattle.unit.specs.Readings.{compared_of}
use Rattle.unit.proofs.Unit.{explicit_again}
use Rattle.modes.proofs.explicit.Goals as goal

pub returns : goal.returns
returns c =
    let a = c.args in
    c.explicit_usize.ensures
    ∙ ap compared_of (explicit_again a.operand1 a.length1 a.operand2 a.length2 a.k c.explicit_length-l1.result c.explicit_length-l2.result
    (rw (to_z-of_z w64 a.length1 c.ranges.length1) at c.explicit_length-l1.ensures) (rw (to_z-of_z w64 a.length2 c.ranges.length2) at c.explicit_length-l2.ensures))
