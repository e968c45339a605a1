-- At the first difference the values decide, and with none the lengths. Assumes nothing.
use mathlib.Core.Path.{◌∙◌, sym, ap}
use mir.Syntax.{w32}
use mir.ValLaws.{to_z-of_z}
use native.Mathlib.Omega.{arith}
use Rattle.unit.specs.Operand.{value_of}
use Rattle.orders.proofs.Calls.{at_difference, with_none}
use Rattle.orders.proofs.ordering.Goals as goal

pub returns-then-k-min : goal.returns-then-k-min
returns-then-k-min g c =
    let E = g.T.Element in
    let a = c.args in
    let k = c.difference-k in
    let value = value_of E.words a.signed in
    let v = c.value in
    let w = c.value-then-k-min in
    c.cmp.ensures
    ∙ at_difference E.words a.signed (E.numbers a.first.now) (E.numbers a.second.now) k.result k.ensures
    (omega (arith, E.reads.long a.first.now, E.reads.long a.second.now)) _ _
    (to_z-of_z w32 v.result (record { sfits = v.type_inv }) ∙ v.ensures ∙ ap value (sym (E.reads.at a.first.now k.result _ (omega arith) c.index-first-k.is)))
    (to_z-of_z w32 w.result (record { sfits = w.type_inv }) ∙ w.ensures ∙ ap value (sym (E.reads.at a.second.now k.result _ (omega arith) c.index-second-k.is)))

pub returns : goal.returns
returns g c =
    let E = g.T.Element in
    let a = c.args in
    let x = E.reads.long a.first.now in
    let y = E.reads.long a.second.now in
    c.cmp-2.ensures
    ∙ with_none E.words a.signed (E.numbers a.first.now) (E.numbers a.second.now) c.difference-k.result c.difference-k.ensures
    (omega (arith, x, y)) _ _ (sym x) (sym y)
