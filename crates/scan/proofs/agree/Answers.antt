-- A whole piece is compared by its operands, the last by `differ_at`. Assumes nothing.
use mathlib.Core.Path.{◌∙◌}
use native.Mathlib.Omega.{arith}
use borrow.Author.Tests.{lt-ltb, le-ltb}
use Rattle.scan.proofs.Pieces.{agreed_more, ended, last_agreed, last_differs, last_ended, none_left, whole_differs, whole_room}
use Rattle.scan.proofs.agree.Goals as goal

pub returns-then-differ_index-b : goal.returns-then-differ_index-b
returns-then-differ_index-b g c =
    let a = c.args in
    let is = c.COUNT-b.ensures ∙ g.T.Element.counted in
    let r = g.T.Element.reads in
    let w = g.T.Element.words in
    let i = c.loop-i.i in
    ended r w a.x.now a.y.now _ _ is c.min-n.ensures i c.loop-i.invariant (whole_room r w a.x.now a.y.now _ _ is c.min-n.ensures i c.loop-i-test.true)
    (whole_differs r w a.x.now a.y.now _ _ is c.min-n.ensures i _ _ _ c.loop-i-test.true c.differ_index.ensures c.whole.ensures c.whole-in-loop-i.ensures ∙ lt-ltb _ _ c.if-differ_index-b.true)

pub loop-i-preserved : goal.loop-i-preserved
loop-i-preserved g c =
    let a = c.args in
    let is = c.COUNT-b.ensures ∙ g.T.Element.counted in
    let r = g.T.Element.reads in
    let w = g.T.Element.words in
    let i = c.loop-i.i in
    agreed_more w (g.T.Element.numbers a.x.now) (g.T.Element.numbers a.y.now) i c.loop-i.invariant
    (whole_differs r w a.x.now a.y.now _ _ is c.min-n.ensures i _ _ _ c.loop-i-test.true c.differ_index.ensures c.whole.ensures c.whole-in-loop-i.ensures ∙ le-ltb _ _ c.if-differ_index-b.false)

pub returns-then-p-n : goal.returns-then-p-n
returns-then-p-n g c =
    let a = c.args in
    none_left g.T.Element.reads g.T.Element.words a.x.now a.y.now _ _ (c.COUNT-b.ensures ∙ g.T.Element.counted) c.min-n.ensures (λ k h. c.loop-i.invariant k (omega arith)) c.if-p-n.true

pub returns-then-differ_at-b : goal.returns-then-differ_at-b
returns-then-differ_at-b g c =
    let a = c.args in
    let is = c.COUNT-b.ensures ∙ g.T.Element.counted in
    let r = g.T.Element.reads in
    let w = g.T.Element.words in
    last_ended r w a.x.now a.y.now _ _ is c.min-n.ensures (λ k h. c.loop-i.invariant k (omega arith)) c.if-p-n.false
    (last_differs r w a.x.now a.y.now _ _ is c.min-n.ensures _ c.differ_at.ensures ∙ lt-ltb _ _ c.if-differ_at-b.true)

pub returns : goal.returns
returns g c =
    let a = c.args in
    let is = c.COUNT-b.ensures ∙ g.T.Element.counted in
    let r = g.T.Element.reads in
    let w = g.T.Element.words in
    last_agreed r w a.x.now a.y.now _ _ is c.min-n.ensures (λ k h. c.loop-i.invariant k (omega arith)) c.if-p-n.false
    (last_differs r w a.x.now a.y.now _ _ is c.min-n.ensures _ c.differ_at.ensures ∙ le-ltb _ _ c.if-differ_at-b.false)
