-- A row more is filled by its place. Assumes nothing.
use mathlib.Core.Path.{refl}
use native.Mathlib.Omega.{arith}
use borrow.Author.Rules.{rules}
use Rattle.bits.specs.Bits.{tabulate}
use Rattle.bits.proofs.Lists.{fill}
use Rattle.scan.specs.Letters.{unasked_in}
use Rattle.scan.proofs.unasked.Goals as goal

pub loop-k-init : goal.loop-k-init
unfolding tabulate
loop-k-init c = (refl, refl)

pub loop-k-preserved : goal.loop-k-preserved
loop-k-preserved c =
    let a = c.args in
    (search rules, fill c.loop-k.a c.loop-k.k (unasked_in a.b a.l) (unasked_in a.b a.l c.loop-k.k) (omega arith) c.loop-k.invariant.1 refl)
