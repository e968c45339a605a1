-- A refused call, or a walk with a list of one over the text cut at the stop. Assumes nothing.
use mathlib.Core.Path.{refl, sym, ◌∙◌}
use native.Mathlib.Omega.{arith}
use Rattle.search.proofs.Lists.{next_refused}
use Rattle.search.proofs.Refusals.{refusal_read}
use Rattle.search.proofs.Stops.{part_length, part_walkable, part_walks}
use Rattle.search.proofs.Cursor.next_match.Goals as goal

-- refused
pub returns-in-Err : goal.returns-in-Err
returns-in-Err g c =
    let a = c.args in
    sym (next_refused g.T.Element.words (g.T.Element.numbers a.text.now) (g.T.Element.numbers a.needle.now) a.self c.in-Err.refusal (refusal_read g.T.Element.reads a.text.now a.needle.now a.self ∙ sym c.accept.ensures ∙ c.in-Err.is))

-- the cut
pub slice_bounds-walk-end : goal.slice_bounds-walk-end
slice_bounds-walk-end g c =
    let a = c.args in
    part_length g.T.Element.reads g.T.Element.words a.text.now a.needle.now a.self (sym c.accept.ensures ∙ c.in_default.is)

-- the walk
pub walk-w-requires : goal.walk-w-requires
walk-w-requires g c =
    let a = c.args in
    part_walkable g.T.Element.reads g.T.Element.words a.text.now a.needle.now a.self (sym c.accept.ensures ∙ c.in_default.is) _ _ _ c.min-l.ensures (c.COUNT.ensures ∙ g.T.Element.counted) (omega arith)

pub returns : goal.returns
returns g c =
    let a = c.args in
    (part_walks g.T.Element.reads g.T.Element.words a.text.now a.needle.now a.self (sym c.accept.ensures ∙ c.in_default.is) _ _ _ c.walk-w.ensures).one refl
