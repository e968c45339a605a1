-- `stages::mask::element_mask` meets its contract, byte by byte. Assumes nothing.
use mathlib.Core.List.{[], ◌∷◌}
use Rattle.bits.specs.Bits.{tabulate}
use Rattle.stages.proofs.mask.element_mask.Goals as goal

pub returns : goal.returns
unfolding tabulate
returns g c =
    λ t.
    c.byte_at.ensures t ∷ c.byte_at-2.ensures t ∷ c.byte_at-3.ensures t ∷ c.byte_at-4.ensures t ∷ c.byte_at-5.ensures t ∷ c.byte_at-6.ensures t ∷ c.byte_at-7.ensures t ∷ c.byte_at-8.ensures t ∷ c.byte_at-9.ensures t ∷ c.byte_at-10.ensures t ∷ c.byte_at-11.ensures t ∷ c.byte_at-12.ensures t ∷ c.byte_at-13.ensures t ∷ c.byte_at-14.ensures t ∷ c.byte_at-15.ensures t ∷ c.byte_at-16.ensures t ∷ []
