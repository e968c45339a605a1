-- The operand is the block's. Assumes nothing.
use native.Mathlib.Omega.{arith}
use Rattle.spans.proofs.Indexes.{front_called}
use Rattle.spans.proofs.front.Goals as goal

pub returns : goal.returns
returns g c =
    let E = g.T.Element in
    let a = c.args in
    let u = c.pcmpestri_usize-answer in
    front_called E.reads E.words a.text.now a.list c.padded-block.result a.i c.min-e.result a.control a.l u.result
    (omega (arith, E.counted)) (omega arith) c.padded-block.ensures u.ensures
