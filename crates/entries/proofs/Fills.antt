-- A loop that fills a list of m places, each with z at first, and lists made one by one. Assumes
-- nothing.
use Prim.Native.Nat.{ℕ, zero, suc, ◌+◌, ◌-◌, ◌≤◌, ◌<◌}
use mathlib.Core.Path.{◌≡◌, refl, sym, ap, ◌∙◌}
use mathlib.Core.List.{List, [], ◌∷◌, ◌++◌, append_assoc, map, map-append}
use native.Mathlib.Omega.{arith}
use native.Mathlib.Nat.{sub-zero}
use native.Mathlib.Numerals.{add-one}
use lib.ListN.{length, get_or, set, take, replicate, length-append, length-replicate}
use lib.Seq.{ext_get_or, set_at, take-suc}
use Rattle.bits.specs.Bits.{tabulate}
use Rattle.bits.proofs.Lists.{length_tabulate, get_or_tabulate}
use Rattle.entries.specs.declared.Entry.{Entry}
use Rattle.entries.specs.Entries.{empty_entry, filled}

module _ {A : Type 0} (m : ℕ) (z : A) (f : ℕ → A) where
  -- the first i are filled
  abbrev pub filling : ℕ → List A
  filling i = tabulate i f ++ replicate (m - i) z

  pub filling_none : replicate m z ≡ filling 0
  unfolding tabulate
  filling_none = rw sub-zero

  pub filling_long : (i : ℕ) → i ≤ m → length (filling i) ≡ m
  filling_long i h =
      omega (arith, length-append (tabulate i f) (replicate (m - i) z), length_tabulate i f, length-replicate (m - i) z)

  -- one more
  pub filling_more : (a : List A) (i : ℕ) (v : A) → i < m → a ≡ filling i → v ≡ f i → set a i v ≡ filling (i + 1)
  unfolding tabulate
  filling_more a i v h e q =
      let k : m - i ≡ suc (m - suc i) = omega arith in
      ap (λ (l : List A). set l i v) e
      ∙ rw (k, set_at (tabulate i f) z (replicate (m - suc i) z) v i (length_tabulate i f), q, add-one)
      (sym (append_assoc (tabulate i f) (f i ∷ []) (replicate (m - suc i) z)))

-- a list of n elements, of which element k is f k
pub table_by_each : {A : Type 0} (f : ℕ → A) (xs : List A) (n : ℕ) (d : A) → length xs ≡ n → ((k : ℕ) → k < n → get_or xs k d ≡ f k) → xs ≡ tabulate n f
table_by_each f xs n d h e =
    ext_get_or d xs (tabulate n f) (h ∙ sym (length_tabulate n f)) (λ k u. e k (omega arith) ∙ sym (get_or_tabulate n k f d (omega arith)))

-- the first n of a list, one by one
pub table_front : {A B : Type 0} (g : A → B) (n : ℕ) (l : List A) (d : A) → n ≤ length l → tabulate n (λ i. g (get_or l i d)) ≡ map g (take n l)
unfolding tabulate
table_front g zero l d h = refl
table_front g (suc n) l d h = rw (take-suc l n d (omega arith), map-append, table_front g n l d (omega arith))

-- a loop over 200 empty entries, ended at n
pub filling_filled : (f : ℕ → Entry) (n : ℕ) → filling 200 empty_entry f n ≡ filled (tabulate n f)
unfolding filled
filling_filled f n = rw length_tabulate
