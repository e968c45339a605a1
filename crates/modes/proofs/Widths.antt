-- An operand has eight elements or sixteen: what follows for the number N of a generic function;
-- and an array of zeros read as numbers. Assumes nothing.
use Rattle.std.proofs.Common.{◌≡◌, ◌∙◌, sym, ℕ, ◌<◌, ◌≤◌, List, Bool, true, arith, length, ltb}
use Rattle.std.proofs.lemmas.Grind.{same_number_lists}
use lib.ListN.{replicate, length-replicate, get_or-replicate}
use Rattle.bits.specs.Bits.{number_of}
use Rattle.bits.proofs.Numbers.{every_bit}
use Rattle.unit.specs.Operand.{count}
use Rattle.unit.specs.Elements.{Reading}
use Rattle.unit.proofs.Modes.{first_cut}
use Rattle.unit.proofs.Unit.{count_most}

pub most : (w : Bool) (n : ℕ) → n ≡ count w → n ≤ 16
most w n e = rw e (count_most w)

-- `bits::first(N)` is every bit
pub ones : (n v : ℕ) → n ≤ 16 → v ≡ number_of 16 (λ j. ltb j n) → v ≡ number_of n (λ j. true)
ones n v h e = first_cut n n v h (omega arith) e ∙ every_bit n n (omega arith)

pub zeros : {A : Type 0} (numbers : List A → List ℕ) (number : A → ℕ) (reads : Reading numbers number) (n : ℕ) (z : A) → number z ≡ 0 → numbers (replicate n z) ≡ replicate n 0
zeros numbers number reads n z e =
    let long : length (numbers (replicate n z)) ≡ n = reads.long (replicate n z) ∙ length-replicate n z in
    same_number_lists (numbers (replicate n z)) (replicate n 0) (long ∙ sym (length-replicate n 0))
    (λ k h.
    let u : k < n = rw long at h in
    reads.at (replicate n z) k z (rw length-replicate u) (sym (get_or-replicate n k z z u)) ∙ e ∙ sym (get_or-replicate n k 0 0 u))
