-- Zeros with the part written over them. Assumes nothing.
use mathlib.Core.Path.{sym}
use Rattle.blocks.proofs.Operands.{filled_zeros}
use Rattle.blocks.proofs.padded.Goals as goal

pub returns : goal.returns
returns g c =
    let x = c.args.part.now in
    filled_zeros g.T.Element.words (g.T.Element.numbers x) _ _ (sym (g.T.Element.reads.long x)) c.fill.ensures
