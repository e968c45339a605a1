-- A step that finds the needle writes a position and goes on from the next, one that misses goes
-- on, and the walk ends where a match, a refusal or the text's end ends the fill. Assumes nothing.
use mathlib.Core.Path.{sym, ap, ◌∙◌}
use lib.ListN.{take}
use native.Mathlib.Omega.{arith}
use Rattle.blocks.specs.Blocks.{operand_of}
use Rattle.blocks.proofs.Operands.{filled_zeros}
use Rattle.search.specs.declared.Stepped.{Stepped}
use Rattle.search.specs.Moves.{reached}
use Rattle.search.proofs.Refusals.{accepted_is, refusal_read}
use Rattle.search.proofs.Turns.{total_few}
use Rattle.search.proofs.Fills.{same_walk, going_past, going_start, match_full, match_on, match_stopped, put_length}
use Rattle.search.proofs.Cursor.walk.Goals as goal

pub anew-from-requires : goal.anew-from-requires
anew-from-requires g c =
    let a = c.args in
    ((accepted_is _ _ a.self c.requires.accepted).more, c.requires.cut ∙ g.T.Element.reads.long a.text.now)

pub loop-at-init : goal.loop-at-init
loop-at-init g c =
    let a = c.args in
    let same = c.anew-from.ensures in
    going_start g.T.Element.words (g.T.Element.numbers a.text.now) (g.T.Element.numbers a.needle.now) a.positions.now c.anew-from.result (rw same c.requires.accepted) (rw same c.requires.cut) c.requires.places

pub overflow_add-at : goal.overflow_add-at
overflow_add-at g c =
    let limits = accepted_is _ _ c.loop-at.from c.loop-at.invariant.accepted in
    omega (arith, limits.text, limits.needle, c.loop-at.invariant.near, g.T.Element.reads.long c.args.needle.now)

pub step-requires : goal.step-requires
step-requires g c =
    let a = c.args in
    let r = g.T.Element.reads in
    let w = g.T.Element.words in
    let xs = g.T.Element.numbers a.text.now in
    let ys = g.T.Element.numbers a.needle.now in
    let limits = accepted_is _ _ c.loop-at.from c.loop-at.invariant.accepted in record {
      searchable = record { small = limits.text; short = limits.needle };
      room = omega (arith, r.long a.text.now, r.long a.needle.now);
      few = total_few w xs ys c.loop-at.from c.loop-at.at c.loop-at.invariant.same limits.text limits.needle limits.compares;
      size = c.requires.size;
      operand = filled_zeros w _ _ _ (sym (r.long (take a.l a.needle.now))) c.fill.ensures ∙ ap (operand_of w) (r.front a.l a.needle.now);
    }

pub matched-requires : goal.matched-requires
matched-requires g c =
    let limits = accepted_is _ _ c.loop-at.from c.loop-at.invariant.accepted in
    omega (arith, ap (λ (s : Stepped). (reached s).position) c.in-Found.is, c.step.ensures.near, limits.text)

pub returns-then-k-positions : goal.returns-then-k-positions
returns-then-k-positions g c =
    let v = c.loop-at.invariant in
    same_walk c.anew-from.ensures
    (match_full v c.step.result c.step.ensures c.in-Found.cursor c.in-Found.is
    (omega (arith, put_length v c.in-Found.cursor.position))
    c.matched.result c.matched.ensures)

pub overflow_add-cursor : goal.overflow_add-cursor
overflow_add-cursor g c =
    let limits = accepted_is _ _ c.loop-at.from c.loop-at.invariant.accepted in
    omega (arith, ap (λ (s : Stepped). (reached s).position) c.in-Found.is, c.step.ensures.near, limits.text)

pub returns-in-Err : goal.returns-in-Err
returns-in-Err g c =
    let a = c.args in
    let v = c.loop-at.invariant in
    same_walk c.anew-from.ensures
    (match_stopped v c.step.result c.step.ensures c.in-Found.cursor c.in-Found.is
    (omega (arith, put_length v c.in-Found.cursor.position, v.below))
    c.moved-from.result c.moved-from.ensures c.in-Err.refusal (refusal_read g.T.Element.reads a.text.now a.needle.now _ ∙ sym c.accept.ensures ∙ c.in-Err.is))

pub loop-at-preserved : goal.loop-at-preserved
loop-at-preserved g c =
    let a = c.args in
    let v = c.loop-at.invariant in
    match_on v c.step.result c.step.ensures c.in-Found.cursor c.in-Found.is
    (omega (arith, put_length v c.in-Found.cursor.position, v.below))
    c.moved-from.result c.moved-from.ensures (refusal_read g.T.Element.reads a.text.now a.needle.now _ ∙ sym c.accept.ensures ∙ c.in_default.is)

pub returns : goal.returns
returns g c =
    let a = c.args in
    let r = g.T.Element.reads in
    same_walk c.anew-from.ensures (going_past c.loop-at.invariant (omega (arith, r.long a.text.now, r.long a.needle.now)) c.absent.result c.absent.ensures)
