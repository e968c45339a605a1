-- `modes::bytes::index_0c` meets its contract: at that control the index is the least place
-- of the mode. Assumes nothing.
use Rattle.std.proofs.Common.{refl, min, pos}
use Rattle.unit.specs.Operand.{in_bytes}
use Rattle.unit.proofs.Unit.{cut_explicit, ordered_index}
use Rattle.modes.proofs.bytes.index_0c.Goals as goal

pub returns : goal.returns
returns c =
    let a = c.args in
    ordered_index a.operand1 (pos a.length1) a.operand2 (pos a.length2) _ _ _ in_bytes (cut_explicit 16 a.length1 (min 16 a.length1) refl) (cut_explicit 16 a.length2 (min 16 a.length2) refl) c.ordered_index.ensures
