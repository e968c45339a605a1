-- Too many entries are refused with nothing written. Else what is handed on is the day of the
-- entries that the rows stand for. Assumes nothing.
use borrow.Author.Rules.{rules}
use lib.ListN.{length}
use Rattle.layout.specs.Layout.{entries_of}
use Rattle.schedule.proofs.Refused.{many_refused}
use Rattle.capi.proofs.day.hx_day_of_parts.Goals as goal

pub returns-then-n-gt-MOST_ENTRIES : goal.returns-then-n-gt-MOST_ENTRIES
returns-then-n-gt-MOST_ENTRIES c =
    rw (many_refused (entries_of c.args.entries.now) (length c.args.entries.now) c.if-n-gt-MOST_ENTRIES.true) (search rules)
