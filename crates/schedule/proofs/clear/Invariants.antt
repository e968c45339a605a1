-- The first i entries are cleared, the others as they were.
use Rattle.std.proofs.Common.{◌≡◌}
use Rattle.schedule.proofs.Clearing.{clearing}
use Rattle.schedule.proofs.clear.Given as goal

abbrev pub invariant-loop-i : goal.invariant-loop-i
invariant-loop-i l = l.entries ≡ clearing l.fn.entries l.i
