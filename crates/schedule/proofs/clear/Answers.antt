-- Those within the count are cleared, and those after it are filled with empty ones.
use Rattle.std.proofs.Common.{◌≡◌, ◌∙◌, ap, refl, arith}
use Rattle.bits.specs.Bits.{tabulate}
use Rattle.schedule.proofs.Clearing.{clearing, clearing_more, cleared_all}
use Rattle.schedule.proofs.clear.Goals as goal

pub loop-i-init : goal.loop-i-init
unfolding tabulate
loop-i-init c = refl

pub loop-i-preserved : goal.loop-i-preserved
loop-i-preserved c =
    let l = c.loop-i in
    clearing_more c.args.entries.now l.entries l.i c.cleared.result (omega (arith, c.requires)) l.invariant c.cleared.ensures

pub returns : goal.returns
returns c =
    let l = c.loop-i in
    let e : l.i ≡ c.args.count = omega arith in
    cleared_all c.args.entries.now l.entries c.fill.new.self c.args.count c.requires c.told-entries (l.invariant ∙ ap (clearing c.args.entries.now) e)
    (c.fill.ensures.after (λ y q. q) ∙ rw c.empty.ensures)
