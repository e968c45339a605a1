-- The first i entries are written.
use Rattle.std.proofs.Common.{ℕ, ◌<◌, ◌≡◌, [], length, get_or}
use Rattle.entries.specs.Entries.{no_entry}
use Rattle.layout.specs.Layout.{row_of}
use Rattle.layout.proofs.write_entries.Given as goal

abbrev pub invariant-loop-i : goal.invariant-loop-i
invariant-loop-i l = (length l.rows ≡ 200) × ((k : ℕ) → k < l.i → get_or l.rows k [] ≡ row_of (get_or l.entries k no_entry))
