-- Block by block the unit tells how many elements belong at its front. Assumes nothing.
use native.Mathlib.Omega.{arith}
use Rattle.spans.proofs.Indexes.{span_ends, span_goes_on, span_whole}
use Rattle.spans.proofs.length_of_span.Goals as goal

pub returns-then-belong-COUNT : goal.returns-then-belong-COUNT
returns-then-belong-COUNT g c =
    let E = g.T.Element in
    let a = c.args in
    span_ends E.reads E.words a.members a.list.now a.text.now c.loop-i.i c.front-belong.result _ _ c.padded-operand.ensures c.span_control-control.ensures
    (omega (arith, E.counted)) (omega arith) c.loop-i.invariant.1 c.front-belong.ensures (omega (arith, E.counted))

pub loop-i-preserved : goal.loop-i-preserved
loop-i-preserved g c =
    let E = g.T.Element in
    let a = c.args in
    let on = span_goes_on E.reads E.words a.members a.list.now a.text.now c.loop-i.i c.front-belong.result _ _ c.padded-operand.ensures c.span_control-control.ensures
    (omega (arith, E.counted)) (omega arith) c.loop-i.invariant.1 c.front-belong.ensures (omega (arith, E.counted)) in
    (omega (arith, E.counted), λ j h. on.1 j (omega (arith, E.counted)))

pub returns-else-belong-COUNT : goal.returns-else-belong-COUNT
returns-else-belong-COUNT g c =
    let E = g.T.Element in
    let a = c.args in
    let on = span_goes_on E.reads E.words a.members a.list.now a.text.now c.loop-i.i c.front-belong.result _ _ c.padded-operand.ensures c.span_control-control.ensures
    (omega (arith, E.counted)) (omega arith) c.loop-i.invariant.1 c.front-belong.ensures (omega (arith, E.counted)) in
    span_whole E.reads E.words a.members a.list.now a.text.now _ (omega (arith, E.counted)) on.1

pub returns : goal.returns
returns g c =
    let E = g.T.Element in
    let a = c.args in
    span_whole E.reads E.words a.members a.list.now a.text.now c.loop-i.i (omega arith) c.loop-i.invariant.1
