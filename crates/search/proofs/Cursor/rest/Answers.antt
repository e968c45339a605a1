-- How many pieces agree is how the later pieces come out. Assumes nothing.
use mathlib.Core.Path.{refl, ap, ◌∙◌}
use native.Mathlib.Omega.{arith}
use Rattle.search.specs.Moves.{rested}
use Rattle.search.proofs.Pieces.{agreed_few, later_agreed}
use Rattle.search.proofs.Cursor.rest.Goals as goal

pub rested-requires : goal.rested-requires
rested-requires g c =
    let a = c.args in
    let r = g.T.Element.reads in
    let few = agreed_few r g.T.Element.words a.text.now a.needle.now a.self.position a.l _ c.requires.room c.requires.size c.agree-agreeing.ensures in
    (omega (arith, c.requires.room, c.requires.searchable.small), c.requires.few, omega (arith, few, r.long a.needle.now, c.requires.searchable.short))

pub returns : goal.returns
returns g c =
    let a = c.args in
    c.rested.ensures
    ∙ ap (rested a.self) (later_agreed g.T.Element.reads g.T.Element.words a.text.now a.needle.now a.self.position a.l _ c.requires.room c.requires.size c.agree-agreeing.ensures _ _ (c.COUNT-b.ensures ∙ g.T.Element.counted) refl)
