-- Numbers below n that pass a test, a list by its elements, and a number by its bits. Each
-- computes.
use Rattle.std.specs.Prelude.{ℕ, zero, suc, ◌+◌, ◌*◌, ◌^◌, Bool, true, false, cond, ◌&&◌, ◌||◌, List, [], ◌∷◌, ◌++◌}

-- some, or every, number below n passes
abbrev pub any_below : ℕ → (ℕ → Bool) → Bool
any_below zero p = false
any_below (suc n) p = any_below n p || p n

abbrev pub all_below : ℕ → (ℕ → Bool) → Bool
all_below zero p = true
all_below (suc n) p = all_below n p && p n

-- the least number below n that passes, or n
unfoldable pub least_below : ℕ → (ℕ → Bool) → ℕ
least_below zero p = zero
least_below (suc n) p = cond (p zero) zero (suc (least_below n (λ j. p (suc j))))

-- the greatest number below n that passes, or none
unfoldable pub greatest_below : ℕ → (ℕ → Bool) → ℕ → ℕ
greatest_below zero p none = none
greatest_below (suc n) p none = cond (p n) n (greatest_below n p none)

-- the list of n elements whose element i is f i
unfoldable pub tabulate : {A : Type 0} → ℕ → (ℕ → A) → List A
tabulate zero f = []
tabulate (suc n) f = tabulate n f ++ (f n ∷ [])

-- the number whose bit j is p j, for j below n; its other bits are 0
unfoldable pub number_of : ℕ → (ℕ → Bool) → ℕ
number_of zero p = zero
number_of (suc n) p = number_of n p + cond (p n) (2 ^ n) zero

-- eight bits, written out: `number_of 8 p`
abbrev pub eight_bits : (ℕ → Bool) → ℕ
eight_bits p =
    cond (p 0) 1 0
    + 2 * (cond (p 1) 1 0
    + 2 * (cond (p 2) 1 0
    + 2 * (cond (p 3) 1 0
    + 2 * (cond (p 4) 1 0
    + 2 * (cond (p 5) 1 0
    + 2 * (cond (p 6) 1 0
    + 2 * (cond (p 7) 1 0 + 2 * 0)))))))
