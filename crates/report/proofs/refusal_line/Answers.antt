-- `report::refusal_line` meets its contract: a number that fits its columns is written in them,
-- another leaves the spaces, and the line feed is stored after both. Assumes nothing.
use mathlib.Core.Path.{ap, ◌∙◌}
use mathlib.Core.List.{List}
use Prim.Native.Nat.{ℕ}
use lib.ListN.{set}
use Rattle.report.proofs.Pages.{refusal_put}
use Rattle.report.proofs.refusal_line.Goals as goal

pub returns : goal.returns
returns c =
    ap (λ (l : List ℕ). set l 8 10) c.right_justified.ensures.buffer ∙ refusal_put c.args.number
