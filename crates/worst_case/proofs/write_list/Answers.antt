-- Every place has the number of `A`, then the last that of `B`. Assumes nothing.
use mathlib.Core.Path.{◌∙◌}
use Prim.Native.Nat.{◌-◌}
use lib.ListN.{length, set}
use Rattle.worst_case.proofs.Letters.{last_written}
use Rattle.worst_case.proofs.write_list.Goals as goal

pub returns : goal.returns
returns g c =
    let M = g.met.T.Writable in
    let n = length c.args.list.now in
    let all = c.fill.ensures.after (M.copied c.from.result).1 in
    (λ t. g.T.Element.numbers (set (all t) (c.fill.ensures.len t - 1) c.from-2.result))
    ∙ last_written g.T.Element.reads n c.from.result c.from-2.result c.requires (M.same _ _ c.from.ensures) (M.same _ _ c.from-2.ensures)
