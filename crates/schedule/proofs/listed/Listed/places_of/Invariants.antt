-- The places of the first i entries stand in the order of the day; within, those below `low` come
-- before the entry, and those from `high` on do not.
use Prim.Native.Nat.{◌-◌, ◌≤◌}
use Rattle.schedule.specs.Places.{Placed}
use Rattle.schedule.proofs.Places.{Searched}
use Rattle.schedule.proofs.listed.Listed.places_of.Given as goal

abbrev pub invariant-loop-low : goal.invariant-loop-low
invariant-loop-low l = (l.low ≤ l.high) × (l.high ≤ l.i) × Searched l.self.entries.now l.places l.i l.e l.low l.high

abbrev pub invariant-loop-i : goal.invariant-loop-i
invariant-loop-i l = Placed l.self.entries.now l.places l.i

abbrev pub decreases-loop-low : goal.decreases-loop-low
decreases-loop-low l = l.high - l.low
