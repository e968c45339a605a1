-- `modes::compare::implicit_length` meets its contract. The invariant: none of the first i elements
-- is zero. Assumes nothing.
use Rattle.std.proofs.Common.{◌∙◌, sym, arith, eqb, get_or}
use borrow.Author.Tests.{eqb-true, eq-eqb, ne_eqb}
use Rattle.bits.proofs.Below.{least_at, least_none}
use Rattle.modes.proofs.compare.implicit_length.Goals as goal

pub returns-then-eq : goal.returns-then-eq
returns-then-eq g c =
    let y = c.index-x-i in
    let z = c.zero in
    let x = g.T.Element.numbers c.args.x.now in
    let read = g.T.Element.reads.at c.args.x.now c.loop-i.i y.result (omega (arith, c.told-x)) y.is in
    let e = eqb-true (g.T.Element.number y.result) (g.T.Element.number z.result)
    (sym (g.met.T.Element.alike y.result z.result) ∙ rw (← y.is) at (sym c.eq.ensures ∙ c.if-eq.true)) in
    sym (least_at g.row.N (λ j. eqb (get_or x j 0) 0) c.loop-i.i c.loop-i-test.true (λ k u. ne_eqb (get_or x k 0) 0 (c.loop-i.invariant k u)) (eq-eqb (get_or x c.loop-i.i 0) 0 (read ∙ e ∙ z.ensures)))

pub returns : goal.returns
returns g c =
    let x = g.T.Element.numbers c.args.x.now in
    sym (least_none g.row.N (λ j. eqb (get_or x j 0) 0) (λ k u. ne_eqb (get_or x k 0) 0 (c.loop-i.invariant k (omega arith))))
