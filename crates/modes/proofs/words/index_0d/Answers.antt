-- `modes::words::index_0d` meets its contract: at that control the index is the least place
-- of the mode. Assumes nothing.
use Rattle.std.proofs.Common.{refl, min, pos}
use Rattle.unit.specs.Operand.{in_words}
use Rattle.unit.proofs.Unit.{cut_explicit, ordered_index}
use Rattle.modes.proofs.words.index_0d.Goals as goal

pub returns : goal.returns
returns c =
    let a = c.args in
    ordered_index a.operand1 (pos a.length1) a.operand2 (pos a.length2) _ _ _ in_words (cut_explicit 8 a.length1 (min 8 a.length1) refl) (cut_explicit 8 a.length2 (min 8 a.length2) refl) (rw (c.words_of-x1.ensures, c.words_of-x2.ensures) at c.ordered_index.ensures)
