-- The first i columns are written.
use mathlib.Core.Path.{◌≡◌}
use mathlib.Core.List.{◌++◌}
use lib.ListN.{length, drop}
use Rattle.bits.specs.Bits.{tabulate}
use Rattle.wall_page.proofs.Columns.{name_byte}
use Rattle.wall_page.proofs.put_name.Given as goal

abbrev pub invariant-loop-i : goal.invariant-loop-i
invariant-loop-i l =
    (length l.page ≡ length l.initial.page) × (l.page ≡ tabulate l.i (name_byte l.name l.size) ++ drop l.i l.initial.page)
