-- `report::put_totals` meets its contract: both numbers fit their columns, the second is written
-- into the part of the page after the first, and the line feed is stored after both. Assumes
-- nothing.
use mathlib.Core.Path.{◌∙◌}
use native.Mathlib.Omega.{arith}
use borrow.Author.Rules.{rules}
use lib.ListN.{length}
use Rattle.decimal.proofs.Columns.{accepts}
use Rattle.report.proofs.Pages.{totals_put, totals_room}
use Rattle.report.proofs.put_totals.Goals as goal

pub unwrap-requires : goal.unwrap-requires
unwrap-requires c =
    let a = c.args in
    rw (c.right_justified.ensures.answer ∙ accepts a.matches 8 (length a.page.now) c.requires.0 (omega arith) (omega arith) (omega (arith, c.requires.2))) (search rules)

pub unwrap-requires-2 : goal.unwrap-requires-2
unwrap-requires-2 c =
    let a = c.args in
    rw (c.right_justified-2.ensures.answer ∙ accepts a.compares 10 _ c.requires.1 (omega arith) (omega arith) (totals_room a.matches a.page.now c.right_justified.new.buffer c.right_justified.ensures.buffer c.requires.0 c.requires.2)) (search rules)

pub returns : goal.returns
returns c =
    let a = c.args in
    totals_put a.matches a.compares a.page.now c.right_justified.new.buffer
    c.right_justified.ensures.buffer c.requires.0 c.requires.1 c.requires.2
    c.right_justified-2.new.buffer c.right_justified-2.ensures.buffer
