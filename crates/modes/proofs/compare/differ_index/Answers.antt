-- `modes::compare::differ_index` meets its contract: the first place is the least bit of `differ`.
-- Assumes nothing.
use Rattle.std.proofs.Common.{◌∙◌, arith, min, not}
use Rattle.bits.proofs.Numbers.{least_or}
use Rattle.unit.specs.Modes.{each_of}
use Rattle.modes.proofs.Widths.{most}
use Rattle.modes.proofs.compare.differ_index.Goals as goal

pub returns : goal.returns
returns g c =
    let a = c.args in
    let n = g.row.N in
    let t = g.T.Element in
    let few = most t.words n (g.met.T.Block.sized ∙ t.counted) in
    c.unwrap_or.ensures
    ∙ least_or n _ c.least.result (λ j. not (each_of (t.numbers a.x1.now) (min n a.length1) (t.numbers a.x2.now) (min n a.length2) j)) (omega (arith, few))
    (rw (c.min.ensures, c.min-2.ensures) at c.differ-found.ensures) c.least.ensures
