-- The operands are those of the two parts, and the lengths theirs. Assumes nothing.
use mathlib.Core.Path.{◌∙◌, ap, sym}
use lib.IntN.{pos}
use Rattle.blocks.specs.Blocks.{each_negated}
use Rattle.blocks.proofs.Compares.{compare_called}
use Rattle.blocks.proofs.short_differ_at.Goals as goal

pub returns : goal.returns
returns g c =
    let a = c.args in
    let long = g.T.Element.reads.long in
    c.differ_index.ensures
    ∙ compare_called g.T.Element.words each_negated (g.T.Element.numbers a.x.now) (g.T.Element.numbers a.y.now) _ _ _ _ c.padded.ensures (ap pos (sym (long a.x.now))) c.padded-2.ensures (ap pos (sym (long a.y.now)))
