-- The numbers of the first i entries are there.
use Rattle.std.proofs.Common.{◌≡◌, length, map, take}
use Rattle.schedule.specs.Places.{number_of}
use Rattle.schedule.proofs.listed.Listed.numbers.Given as goal

abbrev pub invariant-loop-i : goal.invariant-loop-i
invariant-loop-i l = (length l.numbers ≡ 200) × (take l.i l.numbers ≡ map number_of (take l.i l.self.entries.now))
