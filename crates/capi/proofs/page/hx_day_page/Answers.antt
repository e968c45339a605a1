-- Too many entries are refused with nothing written. Else the page is that of the entries that the
-- rows stand for. Assumes nothing.
use mathlib.Core.Path.{sym, ap, ◌∙◌}
use lib.ListN.{length}
use Rattle.refusals.specs.declared.Refusal.TheVariants.{Count}
use Rattle.layout.specs.Layout.{entries_of}
use Rattle.wall_page.proofs.Refused.{many_refused, page_err}
use Rattle.refusals.specs.Numbers.{status}
use Rattle.capi.proofs.page.hx_day_page.Goals as goal

pub returns-then-n-gt-MOST_ENTRIES : goal.returns-then-n-gt-MOST_ENTRIES
returns-then-n-gt-MOST_ENTRIES c =
    let a = c.args in
    let es = entries_of a.entries.now in
    let n = length a.entries.now in
    let r = many_refused es n (length a.page.now) c.if-n-gt-MOST_ENTRIES.true in
    record { status_is = c.from.ensures ∙ sym (ap status r); new_page = sym (page_err es n a.page.now Count r) }
