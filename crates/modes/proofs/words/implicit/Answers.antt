-- `modes::words::implicit` meets its contract: the first zero element is where an operand ends.
-- Assumes nothing.
use Rattle.std.proofs.Common.{refl}
use Rattle.unit.specs.Operand.{in_words}
use Rattle.modes.specs.Widths.{at_width}
use Rattle.unit.proofs.Unit.{implicit_is, words_count}
use Rattle.modes.proofs.words.implicit.Goals as goal

pub returns : goal.returns
returns c =
    let a = c.args in
    let f = c.words_of-x1 in
    let h = c.words_of-x2 in
    implicit_is (at_width in_words a.k) in_words a.operand1 a.operand2 f.result _ h.result _ c.implicit.result refl f.ensures (rw f.ensures (words_count a.operand1)) refl h.ensures (rw h.ensures (words_count a.operand2)) refl c.implicit.ensures
