-- What the tests of the four letters say at one place more. Assumes nothing.
use Prim.Native.Nat.{ℕ, ◌<◌}
use mathlib.Core.Path.{◌≡◌, ◌∙◌, ap, sym}
use lib.Dec.{eqb}
use lib.ListN.{get_or}
use native.Mathlib.Omega.{arith}
use Rattle.unit.specs.Operand.{count, elements}
use Rattle.scan.specs.Letters.{stands_at}
use Rattle.scan.proofs.Scans.{first_letter, place_more}
use Rattle.scan.proofs.may_start.Goals as goal

pub loop-j-preserved : goal.loop-j-preserved
loop-j-preserved g c =
    let a = c.args in
    let y = g.T.Element.numbers a.part.now in
    let xs = elements g.T.Element.words a.operand1.now in
    let u = a.rows.now in
    let j = c.loop-j.j in
    let within : j < count g.T.Element.words = omega (arith, g.T.Element.counted) in
    let at = g.T.Element.reads.at a.part.now j c.index-part-j.result (omega (arith, g.T.Element.reads.long a.part.now)) c.index-part-j.is in
    let first : c.eq-x0.result ≡ eqb (get_or y j 0) (get_or xs 0 0) =
    c.eq-x0.ensures ∙ g.met.T.Element.alike c.index-part-j.result c.read-a0.result ∙ (λ t. eqb (sym at t) (c.read-a0.ensures t)) in
    let row = λ (k v : ℕ). stands_at y v u j k in
    place_more y xs u c.loop-j.found j _ _ _ _ (first ∙ sym (first_letter y (get_or xs 0 0) u j (c.requires.asked j within)))
    (c.stands-x1.ensures ∙ ap (row 1) c.read-a1.ensures)
    (c.stands-x2.ensures ∙ ap (row 2) c.read-a2.ensures)
    (c.stands-x3.ensures ∙ ap (row 3) c.read-a3.ensures)
    c.loop-j.invariant
