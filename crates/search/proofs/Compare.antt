-- What the two compares of the walk tell about their parts: their bits say where the parts are
-- equal. Assumes nothing.
use Prim.Native.Nat.{ℕ, ◌+◌, ◌-◌, ◌≤◌, ◌<◌}
use mathlib.Core.Path.{◌≡◌, refl, sym, ◌∙◌}
use mathlib.Core.Bool.{Bool, true, false}
use mathlib.Core.List.{List}
use lib.Dec.{eqb, ltb}
use lib.ListN.{length, get_or}
use native.Mathlib.Omega.{arith}
use borrow.Author.Tests.{ltb-true, ltb-false, lt-ltb, le-ltb, eqb-true, eq-eqb, not-false}
use Rattle.bits.specs.Bits.{least_below}
use Rattle.bits.proofs.Below.{least_within, by_test, least_before, least_passes, all_each, each_all}
use Rattle.blocks.specs.Blocks.{compare_index, each_negated}
use Rattle.blocks.proofs.Compares.{parts_index, each_bit, each_is}
use Rattle.unit.specs.declared.Aggregation.TheVariants.{EqualOrdered}
use Rattle.unit.specs.Control.{control_of}
use Rattle.unit.specs.Operand.{count}
use Rattle.unit.specs.Compare.{override, bool_res, int_res1, int_res2}
use Rattle.unit.specs.Output.{index_of}
use Rattle.unit.specs.Calls.{PCMPESTRI}
use Rattle.unit.specs.Modes.{follows, ordered_of}
use Rattle.search.specs.Walk.{ordered}

-- ---- the two compares, by their bits

-- operand 1's valid elements equal operand 2's from j on, as far as the block goes
abbrev pub FitsAt : ℕ → List ℕ → List ℕ → ℕ → Type 0
FitsAt b x y j = (i : ℕ) → i < length x → j + i < b → (j + i < length y) × (get_or y (j + i) 0 ≡ get_or x i 0)

module _ (b : ℕ) (x y : List ℕ) where
  abbrev ordered_bit : ℕ → Bool
  ordered_bit = ordered_of b x (length x) y (length y)

  both : (v r : Bool) → override EqualOrdered true v r ≡ true → (v ≡ true) × (r ≡ true)
  both true r e = (refl, e)
  both false r e = (e, cc)

  fits_bit : (j : ℕ) → FitsAt b x y j → ordered_bit j ≡ true
  fits_bit j f =
      each_all (b - j) (follows x (length x) y (length y) j)
      (λ i g. by_test (ltb i (length x))
      (λ e. let q = f i (ltb-true i (length x) e) (omega arith) in rw (e, lt-ltb (j + i) (length y) q.0, eq-eqb (get_or y (j + i) 0) (get_or x i 0) q.1))
      (λ e. rw e))

  bit_fits : (j : ℕ) → ordered_bit j ≡ true → FitsAt b x y j
  bit_fits j e i hx hb =
      let t : follows x (length x) y (length y) j i ≡ true = all_each (b - j) (follows x (length x) y (length y) j) e i (omega arith) in
      let u = both (ltb (j + i) (length y)) (eqb (get_or y (j + i) 0) (get_or x i 0)) (rw (lt-ltb i (length x) hx) at t) in
      (ltb-true (j + i) (length y) u.0, eqb-true (get_or y (j + i) 0) (get_or x i 0) u.1)

ordered_is : (words : Bool) (x y : List ℕ) → length x ≤ count words → length y ≤ count words → compare_index words ordered x y ≡ least_below (count words) (ordered_bit (count words) x y)
unfolding compare_index PCMPESTRI control_of index_of int_res2 int_res1 bool_res
ordered_is true x y hx hy = parts_index (control_of 0x0D) x y hx hy
ordered_is false x y hx hy = parts_index (control_of 0x0C) x y hx hy

-- ---- what the index tells

module _ (words : Bool) (x y : List ℕ) (hx : length x ≤ count words) (hy : length y ≤ count words) where
  -- below the index of the equal ordered compare, operand 1 fits nowhere
  pub ordered_before : (j : ℕ) → j < compare_index words ordered x y → FitsAt (count words) x y j → ⊥
  ordered_before j h f =
      let b = count words in
      let t : ordered_bit b x y j ≡ true = fits_bit b x y j f in
      let u : ordered_bit b x y j ≡ false = least_before b (ordered_bit b x y) j (rw (ordered_is words x y hx hy) at h) in
      let z : ◌≡◌ {A = ℕ} 0 1 = cc in
      omega arith

  pub ordered_most : compare_index words ordered x y ≤ count words
  ordered_most = rw (ordered_is words x y hx hy) (least_within (count words) (ordered_bit (count words) x y))

  -- at an index below b it fits
  pub ordered_at : (k : ℕ) → compare_index words ordered x y ≡ k → k < count words → FitsAt (count words) x y k
  ordered_at k e h =
      let b = count words in
      let z : least_below b (ordered_bit b x y) ≡ k = sym (ordered_is words x y hx hy) ∙ e in
      bit_fits b x y k (rw z at (least_passes b (ordered_bit b x y) (rw z h)))

  -- The negated equal each compare of two parts of one length finds a bit just where they differ.
  pub each_differs : compare_index words each_negated x y < count words → length x ≡ length y → ((i : ℕ) → i < length x → get_or y i 0 ≡ get_or x i 0) → ⊥
  each_differs h l same =
      let b = count words in
      let k = least_below b (each_bit x y) in
      let u : each_bit x y k ≡ true = least_passes b (each_bit x y) (rw (each_is words x y hx hy) at h) in
      let z : ◌≡◌ {A = ℕ} 0 1 =
      by_test (ltb k (length x))
      (λ e. let in_x : k < length x = ltb-true k (length x) e in
      let f : false ≡ true = rw (e, lt-ltb k (length y) (rw l at in_x), eq-eqb (get_or y k 0) (get_or x k 0) (same k in_x)) at u in cc)
      (λ e. let f : false ≡ true = rw (e, le-ltb k (length y) (rw l at (ltb-false k (length x) e))) at u in cc) in
      omega arith

  pub each_same : count words ≤ compare_index words each_negated x y → length x ≡ length y → (i : ℕ) → i < length x → get_or y i 0 ≡ get_or x i 0
  each_same h l i in_x =
      let b = count words in
      let g : b ≤ least_below b (each_bit x y) = rw (each_is words x y hx hy) at h in
      let t : each_bit x y i ≡ false = least_before b (each_bit x y) i (omega arith) in
      eqb-true (get_or y i 0) (get_or x i 0) (not-false (eqb (get_or y i 0) (get_or x i 0)) (rw (lt-ltb i (length x) in_x, lt-ltb i (length y) (rw l at in_x)) at t))
