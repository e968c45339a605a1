-- The first i entries are read.
use Rattle.std.proofs.Common.{◌≡◌, [], get_or}
use Rattle.entries.proofs.Fills.{filling}
use Rattle.entries.specs.Entries.{empty_entry}
use Rattle.layout.specs.Layout.{entry_of}
use Rattle.layout.proofs.entries_of.Given as goal

abbrev pub invariant-loop-i : goal.invariant-loop-i
invariant-loop-i l = l.out ≡ filling 200 empty_entry (λ j. entry_of (get_or l.rows j [])) l.i
