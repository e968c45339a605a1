-- Those that are read are all, or the first 200.
use Rattle.std.proofs.Common.{arith, [], get_or}
use Rattle.entries.proofs.Fills.{filling_none, filling_more}
use Rattle.entries.specs.Entries.{empty_entry}
use Rattle.layout.specs.Layout.{entry_of}
use Rattle.layout.proofs.Rows.{entries_read}
use Rattle.layout.proofs.entries_of.Goals as goal

pub loop-i-init : goal.loop-i-init
loop-i-init c = rw c.empty-out.ensures (filling_none 200 empty_entry (λ j. entry_of (get_or c.args.rows.now j [])))

pub loop-i-preserved : goal.loop-i-preserved
loop-i-preserved c =
    let l = c.loop-i in
    filling_more 200 empty_entry (λ j. entry_of (get_or c.args.rows.now j [])) l.out l.i c.entry_of.result (omega arith) l.invariant c.entry_of.ensures

pub returns : goal.returns
returns c = entries_read c.args.rows.now c.loop-i.i c.loop-i.out (omega arith) c.loop-i.invariant
