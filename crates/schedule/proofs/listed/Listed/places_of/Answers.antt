-- Halving finds where an entry goes in, and its place goes in there.
use Rattle.std.proofs.Common.{ℕ, ◌+◌, ◌-◌, ◌/◌, ◌≡◌, refl, get_or, arith}
use Rattle.schedule.proofs.Places.{placed_none, placed_more, search_start, search_up, search_down, place_below}
use Rattle.schedule.proofs.listed.Listed.places_of.Goals as goal

-- the place in the middle
abbrev middle : (low high : ℕ) → ℕ
middle low high = low + (high - low) / 2

pub loop-i-init : goal.loop-i-init
loop-i-init c = placed_none _ _ c.told-places

pub loop-low-init : goal.loop-low-init
loop-low-init c = (omega arith, omega arith, search_start c.args.self.entries.now c.loop-i.places c.loop-i.i c.loop-i.invariant (omega (arith, c.args.self.within)) _)

pub bounds-self-places : goal.bounds-self-places
bounds-self-places c =
    let l = c.loop-i in
    let m = middle c.loop-low.low c.loop-low.high in
    place_below c.args.self.entries.now l.places l.i m (get_or l.places m 0) (omega arith) (omega (arith, l.invariant.long)) refl l.invariant.places

pub loop-low-preserved-then-precedes : goal.loop-low-preserved-then-precedes
loop-low-preserved-then-precedes c =
    let l = c.loop-i in
    let m = middle c.loop-low.low c.loop-low.high in (
      omega arith,
      omega arith,
      search_up c.args.self.entries.now l.places l.i l.invariant (omega (arith, c.args.self.within)) _ c.loop-low.low c.loop-low.high m (get_or l.places m 0) c.precedes.result
          (omega arith) refl c.precedes.ensures c.loop-low.invariant.2 c.if-precedes.true,
    )

pub loop-low-preserved : goal.loop-low-preserved
loop-low-preserved c =
    let l = c.loop-i in
    let m = middle c.loop-low.low c.loop-low.high in (
      omega arith,
      omega arith,
      search_down c.args.self.entries.now l.places l.i l.invariant (omega (arith, c.args.self.within)) _ c.loop-low.low c.loop-low.high m (get_or l.places m 0) c.precedes.result
          (omega arith) refl c.precedes.ensures c.loop-low.invariant.2 c.if-precedes.false,
    )

pub loop-i-preserved : goal.loop-i-preserved
loop-i-preserved c =
    let q : c.loop-low.high ≡ c.loop-low.low = omega arith in
    placed_more c.args.self.entries.now c.loop-i.places c.loop-i.i c.loop-i.invariant (omega (arith, c.args.self.within)) _ c.loop-low.low (omega arith) (omega arith)
    c.put.ensures (rw q at c.loop-low.invariant.2)
