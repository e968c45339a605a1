-- The numbers are read low byte first, and the name is the rest.
use Rattle.layout.proofs.Rows.{entry_made}
use native.Mathlib.Omega.{arith}
use Rattle.layout.proofs.entry_of.Goals as goal

pub returns : goal.returns
returns c = entry_made c.args.bytes _ _ _ _ (omega arith) c.from_le_bytes.ensures c.from_le_bytes-2.ensures c.from_le_bytes-3.ensures c.copy_from_slice.ensures.after
