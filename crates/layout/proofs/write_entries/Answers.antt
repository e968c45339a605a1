-- All 200 are written.
use Rattle.std.proofs.Common.{arith}
use Rattle.layout.proofs.Rows.{rows_written}
use Rattle.layout.proofs.write_entries.Goals as goal

pub returns : goal.returns
returns c = rows_written c.args.entries c.loop-i.rows (omega arith) c.loop-i.invariant.0 (λ k u. c.loop-i.invariant.1 k (omega arith))
