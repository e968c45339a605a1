-- Table 5-7 forces every comparison but that of two valid elements: what the theorem on valid
-- elements (ValidElements.antt) rests on. Assumes nothing.
use mathlib.Core.Path.{◌≡◌, refl}
use mathlib.Core.Bool.{Bool, true, false}
use Rattle.unit.specs.declared.Aggregation.{Aggregation}
use Rattle.unit.specs.declared.Aggregation.TheVariants.{EqualAny, Ranges, EqualEach, EqualOrdered}
use Rattle.unit.specs.Compare.{override}

-- only the comparison of two valid elements counts
pub valid_only : (a : Aggregation) (v w r s : Bool) → (v ≡ true → w ≡ true → r ≡ s) → override a v w r ≡ override a v w s
valid_only a true true r s h = h refl refl
valid_only a true false r s h = refl
valid_only EqualAny false w r s h = refl
valid_only Ranges false w r s h = refl
valid_only EqualEach false w r s h = refl
valid_only EqualOrdered false w r s h = refl
