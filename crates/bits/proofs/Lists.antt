-- Laws of `tabulate`, and of loops that fill a list. Assumes nothing.
use Prim.Native.Nat.{ℕ, zero, suc, ◌+◌, ◌-◌, ◌<◌}
use mathlib.Core.Path.{◌≡◌, refl, sym, subst, ◌∙◌}
use mathlib.Core.List.{List, [], ◌∷◌}
use native.Mathlib.Omega.{arith}
use native.Mathlib.Nat.{add-zero, add-suc}
use native.Mathlib.Numerals.{add-one}
use lib.ListN.{length, get_or, take, set, length-append, get_or-append}
use lib.Seq.{take-suc-set, take_all, get_or_at}
use Rattle.bits.specs.Bits.{tabulate}

-- ---- a list by its elements

pub length_tabulate : {A : Type 0} (n : ℕ) (f : ℕ → A) → length (tabulate n f) ≡ n
unfolding tabulate
length_tabulate zero f = refl
length_tabulate (suc n) f = rw length-append (omega (arith, length_tabulate n f))

tabulate_past : {A : Type 0} (i m : ℕ) (f : ℕ → A) (d : A) → get_or (tabulate (suc (i + m)) f) i d ≡ f i
unfolding tabulate
tabulate_past i zero f d = rw (add-zero, get_or_at (tabulate i f) (f i) [] d i (length_tabulate i f))
tabulate_past i (suc m) f d =
    rw (add-suc, get_or-append (tabulate (suc (i + m)) f) (f (suc (i + m)) ∷ []) d i (rw length_tabulate (omega arith))) (tabulate_past i m f d)

pub get_or_tabulate : {A : Type 0} (n i : ℕ) (f : ℕ → A) (d : A) → i < n → get_or (tabulate n f) i d ≡ f i
unfolding tabulate
get_or_tabulate n i f d h =
    let q : suc (i + (n - suc i)) ≡ n = omega arith in
    subst (λ (m : ℕ). get_or (tabulate m f) i d ≡ f i) q (tabulate_past i (n - suc i) f d)

pub tabulate_same : {A : Type 0} (n : ℕ) (f g : ℕ → A) → ((i : ℕ) → i < n → f i ≡ g i) → tabulate n f ≡ tabulate n g
unfolding tabulate
tabulate_same zero f g h = refl
tabulate_same (suc n) f g h = rw (h n (omega arith), tabulate_same n f g (λ i u. h i (omega arith)))

-- one store more of a loop that fills a list
pub fill : {A : Type 0} (a : List A) (i : ℕ) (f : ℕ → A) (v : A) → i < length a → take i a ≡ tabulate i f → v ≡ f i → take (i + 1) (set a i v) ≡ tabulate (i + 1) f
unfolding tabulate
fill a i f v h e q = rw (add-one, take-suc-set a i v h, e, q)

-- the filled list is the whole list
pub filled : {A : Type 0} (a : List A) (n : ℕ) (f : ℕ → A) → length a ≡ n → take n a ≡ tabulate n f → a ≡ tabulate n f
unfolding tabulate
filled a n f h e = sym (take_all n a (omega arith)) ∙ e
