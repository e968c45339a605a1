-- The answer is that of the call after as many as there are matches so far, and the page has their
-- lines.
use Prim.Native.Nat.{suc, ◌-◌}
use lib.ListN.{length}
use Rattle.search.specs.Positions.{positions}
use Rattle.report.proofs.Turns.{Calling}
use Rattle.report.proofs.put_matches.Given as goal

abbrev pub invariant-calls : goal.invariant-calls
invariant-calls l = Calling l.text l.needle l.initial.page l.matches l.answer l.page

abbrev pub decreases-calls : goal.decreases-calls
decreases-calls l = suc (length (positions l.text l.needle)) - l.matches
