-- `alike::same` meets its contract: a block compared with one value is a block compared with that
-- value as often as it has elements. Assumes nothing.
use Rattle.std.proofs.Common.{◌∙◌, sym, ap, eqb, get_or}
use lib.ListN.{replicate, length-replicate, get_or-replicate}
use Rattle.bits.proofs.Below.{number_same}
use Rattle.alike.proofs.same.Goals as goal

pub returns : goal.returns
returns g c =
    let a = c.args in
    let numbers = g.T.Element.numbers in
    c.alike.ensures
    ∙ number_same g.row.N _ (λ j. eqb (get_or (numbers a.x.now) j 0) (g.T.Element.number a.y))
    (λ j h. ap (eqb (get_or (numbers a.x.now) j 0))
    (g.T.Element.reads.at (replicate g.row.N a.y) j a.y (rw length-replicate h) (sym (get_or-replicate g.row.N j a.y a.y h))))
