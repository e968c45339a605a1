-- Refused, the run is empty, and so are its numbers; accepted, the answer is found. Assumes
-- nothing.
use mathlib.Core.Path.{◌∙◌, refl}
use Rattle.spans.proofs.range_span.Goals as goal

pub returns-in-Err : goal.returns-in-Err
returns-in-Err g c =
    let E = g.T.Element in
    let a = c.args in
    (refl, E.reads.front 0 a.text.now ∙ rw (E.reads.long a.text.now, E.reads.long a.bounds.now, ← c.in-Err.ensures))
