-- A turn of the loop puts the line of the match that was found behind the others, and finds the
-- next; the answer that is no match comes after the last one (Turns.antt). Assumes nothing.
use Prim.Native.Nat.{◌*◌}
use mathlib.Core.Path.{refl, ap, ◌∙◌}
use native.Mathlib.Omega.{arith}
use lib.ListN.{length-drop}
use Rattle.std.proofs.lemmas.List.{take_rest}
use Rattle.unit.specs.Operand.{in_bytes}
use Rattle.search.specs.Cursors.{next_match}
use Rattle.search.proofs.Callers.{positions_few}
use Rattle.report.proofs.Turns.{found_all, match_small, matched, no_lines}
use Rattle.report.proofs.put_matches.Goals as goal

pub calls-init : goal.calls-init
calls-init c = record {
  within = omega arith;
  at = c.next_match-answer.ensures ∙ ap (next_match in_bytes c.args.text.now c.args.needle.now) c.fresh.ensures;
  room = refl;
  lines = no_lines c.args.page.now;
}

pub overflow_mul-matches : goal.overflow_mul-matches
overflow_mul-matches c =
    let a = c.args in
    omega (arith, c.calls.invariant.within, positions_few a.text.now a.needle.now, c.requires.small)

pub slice_bounds-put_number-count : goal.slice_bounds-put_number-count
slice_bounds-put_number-count c =
    let a = c.args in
    omega (arith, c.calls.invariant.within, c.calls.invariant.room, positions_few a.text.now a.needle.now, c.requires.small, c.requires.room)

pub slice_bounds-put_number-start : goal.slice_bounds-put_number-start
slice_bounds-put_number-start c =
    let a = c.args in
    omega (arith, c.calls.invariant.within, c.calls.invariant.room, positions_few a.text.now a.needle.now, c.requires.small, c.requires.room)

pub put_number-requires : goal.put_number-requires
put_number-requires c =
    let a = c.args in (
      match_small a.text.now a.needle.now c.requires.small c.requires.short c.calls.invariant c.in-Match.position c.in-Match.after c.in-Match.is,
      rw (take_rest c.calls.page (c.calls.matches * 9), length-drop)
          (omega (arith, c.calls.invariant.within, c.calls.invariant.room, positions_few a.text.now a.needle.now, c.requires.small, c.requires.room)),
    )

pub overflow_add-matches : goal.overflow_add-matches
overflow_add-matches c =
    let a = c.args in
    omega (arith, c.calls.invariant.within, positions_few a.text.now a.needle.now, c.requires.small)

pub calls-preserved : goal.calls-preserved
calls-preserved c =
    let a = c.args in
    matched a.text.now a.needle.now c.requires.small c.requires.short c.calls.invariant c.requires.room c.in-Match.position c.in-Match.after c.next_match-answer-in-Match.result c.put_number.new.page c.in-Match.is c.next_match-answer-in-Match.ensures c.put_number.ensures

pub returns-in-Match-answer-2 : goal.returns-in-Match-answer-2
returns-in-Match-answer-2 c =
    let a = c.args in
    found_all a.text.now a.needle.now c.requires.small c.requires.short c.calls.invariant c.in_default.not-Match c.in-Match-answer.last c.in-Match-answer.is

pub returns-in-Match-answer-3 : goal.returns-in-Match-answer-3
returns-in-Match-answer-3 c =
    let a = c.args in
    found_all a.text.now a.needle.now c.requires.small c.requires.short c.calls.invariant c.in_default.not-Match c.in-Match-answer.last c.in-Match-answer.is
