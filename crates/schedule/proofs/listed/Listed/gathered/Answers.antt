-- Those at the first places are filled.
use Rattle.std.proofs.Common.{◌≡◌, ◌∙◌, ap, refl, length, get_or, take_all, arith}
use Rattle.entries.specs.Entries.{empty_entry, filled}
use Rattle.entries.proofs.Fills.{filling_none, filling_more, filling_filled}
use Rattle.schedule.specs.Days.{inserted}
use Rattle.schedule.proofs.Places.{entries_table, place_below}
use Rattle.schedule.proofs.listed.Listed.gathered.Goals as goal

pub loop-i-init : goal.loop-i-init
loop-i-init c = (refl, rw c.empty-empty.ensures (filling_none 200 empty_entry _))

pub bounds-self-places : goal.bounds-self-places
bounds-self-places c =
    let a = c.args in
    let p = c.places_of in
    place_below a.self.entries.now p.new.places (length a.self.entries.now) c.loop-i.i (get_or p.new.places c.loop-i.i 0) (omega arith) (omega (arith, c.args.self.within, p.ensures.long)) refl p.ensures.places

pub loop-i-preserved : goal.loop-i-preserved
loop-i-preserved c =
    let l = c.loop-i in
    (l.invariant.0, filling_more 200 empty_entry _ l.day.entries l.i _ (omega (arith, c.args.self.within)) l.invariant.1 refl)

pub returns : goal.returns
returns c =
    let a = c.args in
    let l = c.loop-i in
    let p = c.places_of in
    let e : l.i ≡ length a.self.entries.now = omega arith in
    record {
      entries = l.invariant.1 ∙ rw e (filling_filled _ _) ∙ ap filled (entries_table a.self.entries.now p.new.places (length a.self.entries.now) (omega (arith, c.args.self.within, p.ensures.long)) ∙ p.ensures.in_place ∙ ap inserted (take_all (length a.self.entries.now) a.self.entries.now (omega arith)));
      counted = l.invariant.0;
    }
