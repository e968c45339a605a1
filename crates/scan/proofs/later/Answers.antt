-- Each block that is not passed is compared, and ends the scan or is passed too. Assumes nothing.
use mathlib.Core.Path.{refl, ◌∙◌}
use native.Mathlib.Omega.{arith}
use Rattle.scan.proofs.Scans.{compared, ended, more, over}
use Rattle.scan.proofs.later.Goals as goal

pub returns-then-k-b : goal.returns-then-k-b
returns-then-k-b g c =
    let a = c.args in
    let is = c.COUNT-b.ensures ∙ g.T.Element.counted in
    let r = g.T.Element.reads in
    let w = g.T.Element.words in
    ended r w a.operand1.now a.l a.part.now _ is c.pass-i.result _ c.pass-i.ensures.passed c.if-i-whole.true (compared r w a.operand1.now a.l a.part.now _ is c.pass-i.result _ _ _ _ refl (omega arith) c.ordered_index-k.ensures c.whole.ensures) c.if-k-b.true

pub loop-i-preserved-then-i-whole : goal.loop-i-preserved-then-i-whole
loop-i-preserved-then-i-whole g c =
    let a = c.args in
    let is = c.COUNT-b.ensures ∙ g.T.Element.counted in
    let r = g.T.Element.reads in
    let w = g.T.Element.words in
    more r w a.operand1.now a.l a.part.now _ is c.pass-i.result _ c.pass-i.ensures.passed c.if-i-whole.true (compared r w a.operand1.now a.l a.part.now _ is c.pass-i.result _ _ _ _ refl (omega arith) c.ordered_index-k.ensures c.whole.ensures) c.if-k-b.false

pub returns : goal.returns
returns g c =
    let a = c.args in
    over g.T.Element.reads g.T.Element.words a.operand1.now a.l a.part.now _ (c.COUNT-b.ensures ∙ g.T.Element.counted) c.loop-i.i c.loop-i.invariant c.loop-i-test.false
