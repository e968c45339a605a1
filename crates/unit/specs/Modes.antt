-- Bit j of IntRes1, a mode at a time: for the contracts of the crate `modes`. A reader of the calls
-- needs none of it.
use Rattle.std.specs.Prelude.{ℕ, ◌+◌, ◌*◌, ◌-◌, Bool, ◌&&◌, List, eqb, ltb, get_or, ℤ}
use Rattle.std.specs.Int.Signed.{le_z}
use Rattle.bits.specs.Bits.{any_below, all_below}
use Rattle.unit.specs.declared.Aggregation.TheVariants.{EqualEach, EqualOrdered}
use Rattle.unit.specs.Compare.{override}

-- some of the first n elements of x₁ is y
abbrev pub is_in : List ℕ → ℕ → ℕ → Bool
is_in x₁ n y = any_below n (λ i. eqb y (get_or x₁ i 0))

-- equal any: element j of x₂ is valid and one of them
abbrev pub any_of : List ℕ → ℕ → List ℕ → ℕ → ℕ → Bool
any_of x₁ n x₂ l₂ j = is_in x₁ n (get_or x₂ j 0) && ltb j l₂

-- y lies from low to high
abbrev pub between : (ℕ → ℤ) → ℕ → ℕ → ℕ → Bool
between value low high y = le_z (value low) (value y) && le_z (value y) (value high)

-- y lies in one of the first n ranges of x₁
abbrev pub in_range : (ℕ → ℤ) → List ℕ → ℕ → ℕ → Bool
in_range value x₁ n y = any_below n (λ k. between value (get_or x₁ (2 * k) 0) (get_or x₁ (2 * k + 1) 0) y)

-- ranges: element j of x₂ is valid and lies in one of them
abbrev pub ranges_of : (ℕ → ℤ) → List ℕ → ℕ → List ℕ → ℕ → ℕ → Bool
ranges_of value x₁ n x₂ l₂ j = in_range value x₁ n (get_or x₂ j 0) && ltb j l₂

-- equal each: the elements at j are equal, or both invalid
abbrev pub each_of : List ℕ → ℕ → List ℕ → ℕ → ℕ → Bool
each_of x₁ l₁ x₂ l₂ j = override EqualEach (ltb j l₁) (ltb j l₂) (eqb (get_or x₂ j 0) (get_or x₁ j 0))

-- the overridden comparison of element j + i of x₂ with element i of x₁
abbrev pub follows : List ℕ → ℕ → List ℕ → ℕ → ℕ → ℕ → Bool
follows x₁ l₁ x₂ l₂ j i =
    override EqualOrdered (ltb i l₁) (ltb (j + i) l₂) (eqb (get_or x₂ (j + i) 0) (get_or x₁ i 0))

-- equal ordered: x₁ stands in x₂ from j on, as far as the block of b goes
abbrev pub ordered_of : ℕ → List ℕ → ℕ → List ℕ → ℕ → ℕ → Bool
ordered_of b x₁ l₁ x₂ l₂ j = all_below (b - j) (follows x₁ l₁ x₂ l₂ j)
