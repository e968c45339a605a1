-- `modes::words::explicit_usize` meets its contract: a length is cut to b. Assumes nothing.
use Rattle.std.proofs.Common.{refl, min, pos}
use Rattle.unit.specs.Operand.{in_words}
use Rattle.unit.proofs.Unit.{cut_explicit, explicit_is}
use Rattle.modes.specs.Widths.{at_width}
use Rattle.modes.proofs.words.explicit_usize.Goals as goal

pub returns : goal.returns
returns c =
    let a = c.args in
    explicit_is (at_width in_words a.k) in_words a.operand1 (pos a.length1) a.operand2 (pos a.length2) c.words_of-x1.result (min 8 a.length1) c.words_of-x2.result (min 8 a.length2) c.explicit_usize.result refl c.words_of-x1.ensures (cut_explicit 8 a.length1 _ refl) c.words_of-x2.ensures (cut_explicit 8 a.length2 _ refl) c.explicit_usize.ensures
