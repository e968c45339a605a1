-- An entry number that stands twice, read off the numbers side by side. Assumes nothing.
use Prim.Native.Nat.{ℕ, ◌≤◌, ◌<◌}
use mathlib.Core.Path.{◌≡◌, sym, ap, ◌∙◌}
use mathlib.Core.Bool.{Bool}
use mathlib.Core.List.{List, map}
use native.Mathlib.Omega.{arith}
use lib.Dec.{eqb}
use lib.ListN.{length, get_or, take, get_or-map}
use lib.Seq.{get_or-take, length-take-le}
use Rattle.bits.specs.Bits.{any_below}
use Rattle.bits.proofs.Below.{any_same}
use Rattle.entries.specs.declared.Entry.{Entry}
use Rattle.entries.specs.Entries.{no_entry}
use Rattle.schedule.specs.Days.{number_twice}
use Rattle.schedule.specs.Places.{number_of}

-- number i stands at an earlier place too
abbrev pub seen_in : List ℕ → ℕ → Bool
seen_in numbers i = any_below i (λ j. eqb (get_or numbers j 0) (get_or numbers i 0))

-- among those before it, as the code looks for it
pub seen_before : (numbers : List ℕ) (i : ℕ) → i ≤ length numbers
    → any_below (length (take i numbers)) (λ j. eqb (get_or (take i numbers) j 0) (get_or numbers i 0)) ≡ seen_in numbers i
seen_before numbers i h =
    rw (length-take-le i numbers h) (any_same i _ _ (λ j u. rw (get_or-take i numbers j 0 u)))

-- the numbers are those of entries
pub twice_by_numbers : (es : List Entry) (numbers : List ℕ) → take (length es) numbers ≡ map number_of es
    → any_below (length es) (seen_in numbers) ≡ number_twice es (length es)
unfolding number_twice
twice_by_numbers es numbers e =
    any_same (length es) _ _ (λ i u. any_same i _ _ (λ j v. rw (read j (omega arith), read i u)))
  where
    read : (i : ℕ) → i < length es → get_or numbers i 0 ≡ (get_or es i no_entry).number
    read i h = sym (get_or-take (length es) numbers i 0 h) ∙ ap (λ (l : List ℕ). get_or l i 0) e ∙ get_or-map number_of es i no_entry

-- the first entries, looked at alone
pub front_twice : (es : List Entry) (n : ℕ) → n ≤ length es → number_twice (take n es) (length (take n es)) ≡ number_twice es n
unfolding number_twice
front_twice es n h =
    rw (length-take-le n es h) (any_same n _ _ (λ i u. any_same i _ _ (λ j v. let w : j < n = omega arith in rw (get_or-take n es j no_entry w, get_or-take n es i no_entry u))))
