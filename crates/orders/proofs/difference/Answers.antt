-- Block by block the compare tells whether the texts differ, and where. Assumes nothing.
use native.Mathlib.Omega.{arith}
use Rattle.orders.proofs.Indexes.{difference_found, difference_goes_on, difference_none}
use Rattle.orders.proofs.difference.Goals as goal

pub returns-then-k-COUNT : goal.returns-then-k-COUNT
returns-then-k-COUNT g c =
    let E = g.T.Element in
    difference_found E.reads c.args.first.now c.args.second.now c.min-n.result c.min-n.ensures E.words c.loop-i.i c.min-e.result c.differ_at-k.result
    (omega (arith, E.counted)) (omega arith) c.loop-i.invariant.1 c.differ_at-k.ensures (omega (arith, E.counted))

pub loop-i-preserved : goal.loop-i-preserved
loop-i-preserved g c =
    let E = g.T.Element in
    let clear = difference_goes_on E.reads c.args.first.now c.args.second.now c.min-n.result c.min-n.ensures E.words c.loop-i.i c.min-e.result c.differ_at-k.result
    (omega (arith, E.counted)) (omega arith) c.loop-i.invariant.1 c.differ_at-k.ensures (omega (arith, E.counted)) in
    (omega arith, λ j h. clear j (omega arith))

pub returns-else-k-COUNT : goal.returns-else-k-COUNT
returns-else-k-COUNT g c =
    let E = g.T.Element in
    let clear = difference_goes_on E.reads c.args.first.now c.args.second.now c.min-n.result c.min-n.ensures E.words c.loop-i.i c.min-e.result c.differ_at-k.result
    (omega (arith, E.counted)) (omega arith) c.loop-i.invariant.1 c.differ_at-k.ensures (omega (arith, E.counted)) in
    difference_none E.reads c.args.first.now c.args.second.now c.min-n.result c.min-n.ensures c.min-e.result (omega arith) clear

pub returns-else-fronts_differ : goal.returns-else-fronts_differ
returns-else-fronts_differ g c =
    difference_none g.T.Element.reads c.args.first.now c.args.second.now c.min-n.result c.min-n.ensures c.loop-i.i (omega arith) c.loop-i.invariant.1
