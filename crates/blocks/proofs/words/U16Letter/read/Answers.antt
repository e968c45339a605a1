-- Word i is the two bytes from 2 i on. Assumes nothing.
use mathlib.Core.Path.{◌∙◌, sym}
use native.Mathlib.Omega.{arith}
use Rattle.bits.proofs.Lists.{get_or_tabulate}
use Rattle.unit.specs.Operand.{word_at, words_of}
use Rattle.blocks.proofs.words.U16Letter.read.Goals as goal

pub returns : goal.returns
unfolding words_of
returns c =
    let a = c.args in
    omega (arith, c.from_le_bytes.ensures) ∙ sym (get_or_tabulate 8 a.i (word_at a.operand.now) 0 (omega arith))
