-- The bytes of the numbers, low byte first, and the name after them.
use Rattle.layout.proofs.Rows.{row_made}
use mathlib.Core.List.{append-nil}
use Rattle.layout.proofs.row_of.Goals as goal

pub returns : goal.returns
returns c =
    row_made c.args.e _
    (rw (c.copy_from_slice.ensures.after, c.copy_from_slice-2.ensures.after, c.copy_from_slice-3.ensures.after, c.copy_from_slice-4.ensures.after, c.to_le_bytes.ensures, c.to_le_bytes-2.ensures, c.to_le_bytes-3.ensures, append-nil))
