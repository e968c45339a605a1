-- `report::put_number` meets its contract: the number is below 10 ^ 8, so it is written in its 8
-- columns, and the line feed is stored after them. Assumes nothing.
use mathlib.Core.Path.{ap, ◌∙◌}
use mathlib.Core.List.{List}
use Prim.Native.Nat.{ℕ}
use lib.ListN.{set}
use native.Mathlib.Omega.{arith}
use borrow.Author.Rules.{rules}
use lib.ListN.{length}
use Rattle.decimal.proofs.Columns.{accepts}
use Rattle.report.proofs.Pages.{number_put}
use Rattle.report.proofs.put_number.Goals as goal

pub unwrap-requires : goal.unwrap-requires
unwrap-requires c =
    let a = c.args in
    rw (c.right_justified.ensures.answer ∙ accepts a.number 8 (length a.page.now) c.requires.0 (omega arith) (omega arith) (omega (arith, c.requires.1))) (search rules)

pub returns : goal.returns
returns c =
    let a = c.args in
    ap (λ (l : List ℕ). set l 8 10) c.right_justified.ensures.buffer ∙ number_put a.number a.page.now c.requires.0 c.requires.1
