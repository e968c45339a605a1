-- The first elements are what the numbers begin with. Assumes nothing.
use Prim.Native.Nat.{min}
use mathlib.Core.Path.{refl, sym, ap, ◌∙◌}
use mathlib.Core.Bool.{not}
use lib.ListN.{length}
use native.Mathlib.Omega.{arith}
use Rattle.orders.proofs.Indexes.{difference_at_front}
use Rattle.orders.proofs.fronts_differ.Goals as goal

pub returns : goal.returns
returns g c =
    let a = c.args in
    let E = g.T.Element in
    let x = E.reads.at a.first.now 0 c.index-first-0.result (omega arith) c.index-first-0.is in
    let y = E.reads.at a.second.now 0 c.index-second-0.result (omega arith) c.index-second-0.is in
    let same = c.eq.ensures ∙ g.met.T.Element.alike c.index-first-0.result c.index-second-0.result in
    λ t. difference_at_front E.reads a.first.now a.second.now (min (length a.first.now) (length a.second.now)) refl _ _ (omega arith) (omega arith) x y (sym (ap not same) ∙ t)
