-- What the unit's index says of two blocks: where they first differ. With that, a loop over blocks
-- finds the first difference of two texts. Stated over the width. Assumes nothing.
use Prim.Native.Nat.{ℕ, ◌+◌, ◌-◌, ◌≤◌, ◌<◌, min}
use mathlib.Core.Path.{◌≡◌, sym, ap, ◌∙◌}
use mathlib.Core.Bool.{Bool, true, false, not}
use mathlib.Core.List.{List}
use native.Mathlib.Omega.{arith}
use lib.Dec.{eqb}
use lib.ListN.{length, get_or, take, drop}
use lib.Seq.{get_or-take, get_or-drop}
use borrow.Author.Tests.{lt-ltb, le-ltb, eqb-true, eqb-false, eq-eqb, ne_eqb}
use Rattle.bits.specs.Bits.{least_below}
use Rattle.bits.proofs.Below.{by_test, by_order, least_at, least_none, least_before, least_passes}
use Rattle.unit.specs.Elements.{Reading}
use Rattle.unit.specs.Operand.{count}
use Rattle.unit.proofs.Elements.{part_is}
use Rattle.blocks.specs.Blocks.{compare_index, each_negated}
use Rattle.blocks.proofs.Compares.{part_size, each_bit, each_is}
use Rattle.orders.specs.Orders.{difference}

eqb_swap : (a b : ℕ) → eqb a b ≡ eqb b a
eqb_swap a b = by_test (eqb a b) (λ t. rw t (sym (eq-eqb b a (sym (eqb-true a b t))))) (λ t. rw t (sym (ne_eqb b a (λ e. eqb-false a b t (sym e)))))

abbrev differ_at : List ℕ → List ℕ → ℕ → Bool
differ_at x y j = not (eqb (get_or x j 0) (get_or y j 0))

-- the texts do not differ before i
abbrev pub ClearTo : List ℕ → List ℕ → ℕ → Type 0
ClearTo x y i = (j : ℕ) → j < i → differ_at x y j ≡ false

module _ {A : Type 0} {numbers : List A → List ℕ} {number : A → ℕ} (r : Reading numbers number) (xs ys : List A) (n : ℕ) (hn : n ≡ min (length xs) (length ys)) where
  long : n ≡ min (length (numbers xs)) (length (numbers ys))
  long = omega (arith, r.long xs, r.long ys)

  -- in the first element
  pub difference_at_front : (a b : ℕ) → 0 < length xs → 0 < length ys → get_or (numbers xs) 0 0 ≡ a → get_or (numbers ys) 0 0 ≡ b → not (eqb a b) ≡ true → difference (numbers xs) (numbers ys) ≡ 0
  unfolding difference
  difference_at_front a b hx hy ha hb t =
      least_at (min (length (numbers xs)) (length (numbers ys))) (differ_at (numbers xs) (numbers ys)) 0 (omega (arith, r.long xs, r.long ys)) (λ j h. absurd (omega arith)) (rw (ha, hb) t)

  -- past the last block
  pub difference_none : (i : ℕ) → i ≡ n → ClearTo (numbers xs) (numbers ys) i → n ≡ difference (numbers xs) (numbers ys)
  unfolding difference
  difference_none i e clear =
      long ∙ sym (least_none (min (length (numbers xs)) (length (numbers ys))) (differ_at (numbers xs) (numbers ys)) (λ j g. clear j (omega (arith, long))))

  -- the blocks from i to e, whose index is k
  module _ (words : Bool) (i e k : ℕ) (he : e ≡ min (i + count words) n) (hi : i < n) (clear : ClearTo (numbers xs) (numbers ys) i) (hk : k ≡ compare_index words each_negated (numbers (take (e - i) (drop i xs))) (numbers (take (e - i) (drop i ys)))) where
    abbrev x : List ℕ
    x = numbers xs

    abbrev y : List ℕ
    y = numbers ys

    abbrev bit : ℕ → Bool
    bit = each_bit (take (e - i) (drop i x)) (take (e - i) (drop i y))

    first_size : length (take (e - i) (drop i x)) ≡ e - i
    first_size = part_size i e x (omega (arith, long))

    second_size : length (take (e - i) (drop i y)) ≡ e - i
    second_size = part_size i e y (omega (arith, long))

    least : k ≡ least_below (count words) bit
    least =
        hk ∙ (λ t. compare_index words each_negated (part_is r i e xs t) (part_is r i e ys t))
        ∙ each_is words (take (e - i) (drop i x)) (take (e - i) (drop i y)) (omega (arith, first_size)) (omega (arith, second_size))

    element : (z : List ℕ) (j : ℕ) → j < e - i → get_or (take (e - i) (drop i z)) j 0 ≡ get_or z (i + j) 0
    element z j h = get_or-take (e - i) (drop i z) j 0 h ∙ get_or-drop i z j 0

    inside : (j : ℕ) → j < e - i → bit j ≡ differ_at x y (i + j)
    inside j h =
        rw (first_size, second_size, lt-ltb j (e - i) h, element x j h, element y j h)
        (ap not (eqb_swap (get_or y (i + j) 0) (get_or x (i + j) 0)))

    past : (j : ℕ) → e - i ≤ j → bit j ≡ false
    past j h = rw (first_size, second_size, le-ltb j (e - i) h)

    below : (j : ℕ) → j < k → bit j ≡ false
    below j h = least_before (count words) bit j (rw least at h)

    before : (j : ℕ) → j < i + k → j < e → differ_at x y j ≡ false
    before j h g =
        by_order j i (clear j)
        (λ u. let d : i + (j - i) ≡ j = omega arith in rw d at (sym (inside (j - i) (omega arith)) ∙ below (j - i) (omega arith)))

    -- the blocks are equal
    pub difference_goes_on : count words ≤ k → ClearTo x y e
    difference_goes_on h j g = before j (omega arith) g

    pub difference_found : k < count words → i + k ≡ difference x y
    unfolding difference
    difference_found h =
        let set : bit k ≡ true = rw (sym least) at (least_passes (count words) bit (rw (sym least) h)) in
        by_order k (e - i)
        (λ g. sym (least_at (min (length x) (length y)) (differ_at x y) (i + k) (omega (arith, long)) (λ j u. before j u (omega arith)) (sym (inside k g) ∙ set)))
        (λ g. absurd (let f : bit k ≡ false = past k g in cc))
