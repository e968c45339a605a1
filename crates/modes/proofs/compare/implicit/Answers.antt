-- `modes::compare::implicit` meets its contract: the first zero element is at N at most. Assumes
-- nothing.
use Rattle.std.proofs.Common.{rules}
use Rattle.bits.proofs.Below.{least_within}
use Rattle.modes.proofs.compare.implicit.Goals as goal

pub compared-requires : goal.compared-requires
compared-requires g c =
    (search rules, (rw c.implicit_length-l1.ensures (least_within g.row.N _), rw c.implicit_length-l2.ensures (least_within g.row.N _)))
