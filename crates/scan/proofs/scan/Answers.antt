-- No whole block, no letters, a first block that answers, or one that is passed. Assumes nothing.
use mathlib.Core.Path.{◌∙◌, sym}
use native.Mathlib.Omega.{arith}
use Rattle.unit.proofs.Unit.{count_some}
use Rattle.scan.proofs.Scans.{a_block, compared, ended, index_empty, more, no_block, over, passed_start, some_letters}
use Rattle.scan.proofs.scan.Goals as goal

pub returns-then-part-b : goal.returns-then-part-b
returns-then-part-b g c =
    let a = c.args in
    let is = c.COUNT-b.ensures ∙ g.T.Element.counted in
    let r = g.T.Element.reads in
    let w = g.T.Element.words in
    let xs = g.T.Element.numbers a.part.now in
    over r w a.operand1 a.l a.part.now _ is 0 (passed_start w a.operand1 a.l xs) (no_block r w a.operand1 a.l a.part.now _ is c.if-part-b.true)

pub returns-then-l-eq0 : goal.returns-then-l-eq0
returns-then-l-eq0 g c =
    let a = c.args in
    let is = c.COUNT-b.ensures ∙ g.T.Element.counted in
    let r = g.T.Element.reads in
    let w = g.T.Element.words in
    let xs = g.T.Element.numbers a.part.now in
    ended r w a.operand1 a.l a.part.now _ is 0 0 (passed_start w a.operand1 a.l xs) (a_block r w a.operand1 a.l a.part.now _ is c.if-part-b.false)
    (rw c.if-l-eq0.true (sym (index_empty w a.operand1 xs 0))) (λ e. absurd (omega (arith, is, count_some w)))

pub returns-then-k-b : goal.returns-then-k-b
returns-then-k-b g c =
    let a = c.args in
    let is = c.COUNT-b.ensures ∙ g.T.Element.counted in
    let r = g.T.Element.reads in
    let w = g.T.Element.words in
    let xs = g.T.Element.numbers a.part.now in
    let index = compared r w a.operand1 a.l a.part.now _ is 0 0 _ _ _ (omega arith) (omega arith) c.ordered_index-k.ensures c.whole.ensures in
    ended r w a.operand1 a.l a.part.now _ is 0 _ (passed_start w a.operand1 a.l xs) (a_block r w a.operand1 a.l a.part.now _ is c.if-part-b.false) index c.if-k-b.true

pub later-requires-2 : goal.later-requires-2
later-requires-2 g c =
    let a = c.args in
    let is = c.COUNT-b.ensures ∙ g.T.Element.counted in
    let r = g.T.Element.reads in
    let w = g.T.Element.words in
    let xs = g.T.Element.numbers a.part.now in
    let index = compared r w a.operand1 a.l a.part.now _ is 0 0 _ _ _ (omega arith) (omega arith) c.ordered_index-k.ensures c.whole.ensures in
    record {
      some = some_letters w a.operand1 a.l xs 0 (sym index ∙ c.if-k-b.false ∙ is);
      passed = more r w a.operand1 a.l a.part.now _ is 0 _ (passed_start w a.operand1 a.l xs) (a_block r w a.operand1 a.l a.part.now _ is c.if-part-b.false) index c.if-k-b.false;
    }
