-- A refused call, an empty list, or a walk over the text cut at the stop. Assumes nothing.
use mathlib.Core.Path.{refl, sym, ◌∙◌}
use lib.ListN.{length}
use borrow.Author.Tests.{eqb-true}
use Rattle.search.specs.declared.End.TheVariants.{Full, Stopped}
use Rattle.search.proofs.Pieces.{some_left}
use Rattle.search.proofs.Refusals.{refusal_read}
use Rattle.search.proofs.Stops.{part_length, part_walkable, part_walks}
use Rattle.search.proofs.Fills.{fill_empty, fill_refused, unwritten, walked}
use Rattle.search.proofs.Cursor.fill.Goals as goal

-- refused
pub returns-in-Err : goal.returns-in-Err
returns-in-Err g c =
    let a = c.args in
    let w = g.T.Element.words in
    let xs = g.T.Element.numbers a.text.now in
    let ys = g.T.Element.numbers a.needle.now in
    let k = length a.positions.now in
    let by = c.in-Err.refusal in
    let none = fill_refused w xs ys a.self k by (refusal_read g.T.Element.reads a.text.now a.needle.now a.self ∙ sym c.accept.ensures ∙ c.in-Err.is) in
    unwritten w xs ys a.self k (Stopped by) a.positions.now c.filled.result none c.filled.ensures

-- an empty list
pub returns-then-is_empty : goal.returns-then-is_empty
returns-then-is_empty g c =
    let a = c.args in
    let w = g.T.Element.words in
    let xs = g.T.Element.numbers a.text.now in
    let ys = g.T.Element.numbers a.needle.now in
    let k = length a.positions.now in
    let none = fill_empty w xs ys a.self k (eqb-true _ _ (sym c.is_empty.ensures ∙ c.if-is_empty.true)) (refusal_read g.T.Element.reads a.text.now a.needle.now a.self ∙ sym c.accept.ensures ∙ c.in_default.is) in
    unwritten w xs ys a.self k Full a.positions.now _ none refl

-- the cut
pub slice_bounds-walk-end : goal.slice_bounds-walk-end
slice_bounds-walk-end g c =
    let a = c.args in
    part_length g.T.Element.reads g.T.Element.words a.text.now a.needle.now a.self (sym c.accept.ensures ∙ c.in_default.is)

-- a walk
pub walk-w-requires : goal.walk-w-requires
walk-w-requires g c =
    let a = c.args in
    part_walkable g.T.Element.reads g.T.Element.words a.text.now a.needle.now a.self (sym c.accept.ensures ∙ c.in_default.is) _ _ _ c.min-l.ensures (c.COUNT.ensures ∙ g.T.Element.counted) (some_left (sym c.is_empty.ensures ∙ c.if-is_empty.false))

pub returns : goal.returns
returns g c =
    let a = c.args in
    let w = g.T.Element.words in
    let walks = part_walks g.T.Element.reads w a.text.now a.needle.now a.self (sym c.accept.ensures ∙ c.in_default.is) _ _ _ c.walk-w.ensures in
    walked w _ _ a.self a.positions.now c.walk-w.result _ c.filled-2.result (some_left (sym c.is_empty.ensures ∙ c.if-is_empty.false)) walks c.filled-2.ensures
