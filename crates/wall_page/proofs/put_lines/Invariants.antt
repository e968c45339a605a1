-- The page begins with the lines of the first r entries, and goes on as it was.
use Prim.Native.Nat.{◌*◌}
use lib.ListN.{take}
use Rattle.wall_page.specs.Pages.{lines_of}
use Rattle.wall_page.proofs.Lines.{Begins}
use Rattle.wall_page.proofs.put_lines.Given as goal

abbrev pub invariant-loop-r : goal.invariant-loop-r
invariant-loop-r l = Begins (lines_of (take l.r l.entries)) (50 * l.r) l.initial.page l.page
