-- The calls' tests are those of the definition, and what an accepted call has written is what the
-- definition says. Assumes nothing.
use Prim.Native.Nat.{ℕ, ◌≤◌}
use mathlib.Core.Path.{◌≡◌}
use mathlib.Core.Bool.{Bool, false}
use native.Mathlib.Omega.{arith}
use Rattle.std.specs.Prelude.{Ok, Err}
use Rattle.std.proofs.lemmas.Bool.Decides.{nat_tests}
use Rattle.bits.proofs.Below.{by_test}
use Rattle.refusals.specs.declared.Refusal.TheVariants as refusal
use Rattle.blocks.specs.Blocks.{longest_text}
use Rattle.unit.specs.Operand.{count}
use Rattle.search.specs.Cursors.{longest_needle}
use Rattle.worst_case.specs.Cases.{case_refusal, sizes_refused}

-- sizes that are not refused
pub record Sizes (words : Bool) (n m : ℕ) : Type 0 where
  pub block : count words ≤ m
  pub within : m ≤ n
  pub text : n ≤ longest_text
  pub needle : m ≤ longest_needle

module _ (words : Bool) (n m : ℕ) where
  sizes_good : sizes_refused words n m ≡ false → Sizes words n m
  sizes_good e =
      record { block = grind (arith, nat_tests); within = grind (arith, nat_tests); text = grind (arith, nat_tests); needle = grind (arith, nat_tests) }

  good_sizes : Sizes words n m → sizes_refused words n m ≡ false
  good_sizes s = grind (arith, nat_tests)

  module _ (t l : ℕ) where
    -- ---- the answer by its tests

    pub by_sizes : (Sizes words n m → ⊥) → case_refusal words n m t l ≡ Err refusal.Sizes
    by_sizes bad = by_test (sizes_refused words n m) (λ e. rw e) (λ e. absurd (bad (sizes_good e)))

    pub by_lengths : Sizes words n m → ((t ≡ n) → (l ≡ m) → ⊥) → case_refusal words n m t l ≡ Err refusal.Lengths
    by_lengths s bad = rw (good_sizes s) (grind (arith, nat_tests))

    pub by_none : Sizes words n m → t ≡ n → l ≡ m → case_refusal words n m t l ≡ Ok tt
    by_none s e g = rw (good_sizes s) (grind (arith, nat_tests))

    -- ---- and what it tells

    -- an accepted call: its sizes, and its buffers
    pub accepted_is : case_refusal words n m t l ≡ Ok tt → Sizes words n m × (t ≡ n) × (l ≡ m)
    accepted_is e =
        by_test (sizes_refused words n m)
        (λ bad. let z = rw bad at e in cc)
        (λ good. let z = rw good at e in (sizes_good good, grind (arith, nat_tests), grind (arith, nat_tests)))
