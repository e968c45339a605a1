-- The elements of what is written, and how it comes about place by place. Assumes nothing.
use Prim.Native.Nat.{ℕ, zero, suc, ◌-◌, ◌<◌}
use mathlib.Core.Path.{◌≡◌, refl, sym, ap, ◌∙◌}
use mathlib.Core.List.{List, [], ◌∷◌, ◌++◌}
use lib.ListN.{length, get_or, set, replicate, length-replicate, length-append, get_or-replicate, get_or-append}
use lib.Seq.{ext_get_or, get_or_at}
use native.Mathlib.Omega.{arith}
use Rattle.unit.specs.Elements.{Reading}
use Rattle.worst_case.specs.Cases.{letter_a, letter_b, worst}

-- ---- the elements

-- a list of n elements: `A` before the last place, and `B` there
pub record EndsInB (n : ℕ) (list : List ℕ) : Type 0 where
  pub size : length list ≡ n
  pub before : (i : ℕ) → suc i < n → get_or list i 0 ≡ letter_a
  pub last : (i : ℕ) → suc i ≡ n → get_or list i 0 ≡ letter_b

pub worst_ends : (n : ℕ) → 0 < n → EndsInB n (worst n)
unfolding worst
worst_ends n h =
    record {
      size = rw (length-append, length-replicate) (omega arith);
      before = λ i g. get_or-append (replicate (n - 1) letter_a) (letter_b ∷ []) 0 i (rw length-replicate (omega arith)) ∙ get_or-replicate (n - 1) i letter_a 0 (omega arith);
      last = λ i g. get_or_at (replicate (n - 1) letter_a) letter_b [] 0 i (length-replicate (n - 1) letter_a ∙ omega arith);
    }

-- ---- the writing

set_last : (k : ℕ) → set (replicate (suc k) letter_a) k letter_b ≡ replicate k letter_a ++ (letter_b ∷ [])
set_last zero = refl
set_last (suc k) = ap (λ (l : List ℕ). letter_a ∷ l) (set_last k)

module _ {A : Type 0} {numbers : List A → List ℕ} {number : A → ℕ} (r : Reading numbers number) where
  numbers_replicate : (n : ℕ) (a : A) → numbers (replicate n a) ≡ replicate n (number a)
  numbers_replicate n a =
      ext_get_or 0 (numbers (replicate n a)) (replicate n (number a)) (r.long (replicate n a) ∙ length-replicate n a ∙ sym (length-replicate n (number a)))
      (λ i h. let here : i < n = omega (arith, r.long (replicate n a), length-replicate n a) in
      r.at (replicate n a) i a (rw length-replicate here) (sym (get_or-replicate n i a a here)) ∙ sym (get_or-replicate n i (number a) 0 here))

  -- all places have `A`, and then the last has `B`
  pub last_written : (n : ℕ) (a b : A) → 0 < n → number a ≡ letter_a → number b ≡ letter_b → numbers (set (replicate n a) (n - 1) b) ≡ worst n
  unfolding worst
  last_written n a b some ha hb =
      let more : n ≡ suc (n - 1) = omega arith in
      r.stored (replicate n a) (n - 1) b
      ∙ (λ t. set ((numbers_replicate n a ∙ (λ u. replicate (more u) (ha u))) t) (n - 1) (hb t))
      ∙ set_last (n - 1)
