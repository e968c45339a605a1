-- A number that stands before its own place is found there, as the definition looks for it.
use mathlib.Core.Path.{◌≡◌, sym, ◌∙◌}
use mathlib.Core.Bool.{false}
use native.Mathlib.Omega.{arith}
use lib.ListN.{length}
use Rattle.entries.proofs.Tests.{any_at, any_next}
use Rattle.schedule.proofs.Twice.{seen_in, seen_before, twice_by_numbers}
use Rattle.schedule.proofs.listed.Listed.number_twice.Goals as goal

pub returns-then-stands_in : goal.returns-then-stands_in
returns-then-stands_in c =
    let l = c.loop-i in
    let n = c.numbers-numbers in
    sym (any_at (seen_in n.result) (length c.args.self.entries.now) l.i (omega arith)
    (sym (seen_before n.result l.i (omega (arith, c.args.self.within))) ∙ sym c.stands_in.ensures ∙ c.if-stands_in.true))
    ∙ twice_by_numbers c.args.self.entries.now n.result n.ensures

pub loop-i-preserved : goal.loop-i-preserved
loop-i-preserved c =
    let l = c.loop-i in
    let n = c.numbers-numbers in (
      l.invariant.0,
      any_next (seen_in n.result) l.i false l.invariant.1
          (sym (seen_before n.result l.i (omega (arith, c.args.self.within))) ∙ sym c.stands_in.ensures ∙ c.if-stands_in.false),
    )

pub returns : goal.returns
returns c =
    let l = c.loop-i in
    let n = c.numbers-numbers in
    let e : l.i ≡ length c.args.self.entries.now = omega arith in
    rw e at l.invariant.1 ∙ twice_by_numbers c.args.self.entries.now n.result n.ensures
