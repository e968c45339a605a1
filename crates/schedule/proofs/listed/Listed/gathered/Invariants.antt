-- The first i places are filled, the others empty.
use mathlib.Core.Path.{◌≡◌}
use lib.ListN.{length, get_or}
use Rattle.entries.specs.Entries.{empty_entry, no_entry}
use Rattle.entries.proofs.Fills.{filling}
use Rattle.schedule.proofs.listed.Listed.gathered.Given as goal

abbrev pub invariant-loop-i : goal.invariant-loop-i
invariant-loop-i l =
    (l.day.count ≡ length l.self.entries.now) × (l.day.entries ≡ filling 200 empty_entry (λ j. get_or l.self.entries.now (get_or l.places j 0) no_entry) l.i)
