-- The first k places of the rows are filled.
use mathlib.Core.Path.{◌≡◌}
use lib.ListN.{length, take}
use Rattle.bits.specs.Bits.{tabulate}
use Rattle.scan.specs.Letters.{unasked_in}
use Rattle.scan.proofs.unasked.Given as goal

abbrev pub invariant-loop-k : goal.invariant-loop-k
invariant-loop-k l = (length l.a ≡ 64) × (take l.k l.a ≡ tabulate l.k (unasked_in l.b l.l))
