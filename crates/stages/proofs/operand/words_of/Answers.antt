-- `stages::operand::words_of` meets its contract. The invariant: the first i words are filled.
-- Assumes nothing.
use mathlib.Core.Path.{◌≡◌, refl}
use Rattle.bits.specs.Bits.{tabulate}
use Rattle.bits.proofs.Lists.{fill, filled}
use Rattle.unit.specs.Operand.{word_at, words_of}
use borrow.Author.Rules.{rules}
use native.Mathlib.Omega.{arith}
use Rattle.stages.proofs.operand.words_of.Goals as goal

pub loop-i-init : goal.loop-i-init
unfolding tabulate
loop-i-init c = (search rules, refl)

pub loop-i-preserved : goal.loop-i-preserved
loop-i-preserved c =
    (search rules, fill c.loop-i.a c.loop-i.i (word_at c.args.x) c.from_le_bytes.result (omega arith) c.loop-i.invariant.1 (omega (arith, c.from_le_bytes.ensures)))

pub returns : goal.returns
unfolding words_of
returns c =
    let e : c.loop-i.i ≡ 8 = omega arith in
    filled c.loop-i.a 8 (word_at c.args.x) c.loop-i.invariant.0 (rw e at c.loop-i.invariant.1)
