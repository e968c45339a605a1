-- What the unit's index says of a block: where the first element stands that does not belong to the
-- set or the ranges. With that, a loop over blocks finds the end of the run. Stated over the width.
-- Assumes nothing.
use Prim.Native.Nat.{ℕ, ◌+◌, ◌-◌, ◌≤◌, ◌<◌, min}
use mathlib.Core.Path.{◌≡◌, refl, sym, ap, ◌∙◌}
use mathlib.Core.Bool.{Bool, true, false, cond, not, ◌&&◌}
use mathlib.Core.List.{List}
use native.Mathlib.Omega.{arith}
use lib.Dec.{ltb}
use lib.ListN.{length, get_or, take, drop}
use lib.IntN.{pos}
use lib.Seq.{get_or-take, get_or-drop}
use borrow.Author.Tests.{lt-ltb, le-ltb}
use Rattle.bits.specs.Bits.{least_below}
use Rattle.bits.proofs.Below.{by_order, least_at, least_none, least_before, least_passes}
use Rattle.unit.specs.declared.Control.{Control}
use Rattle.unit.specs.declared.Aggregation.TheVariants.{EqualAny, Ranges}
use Rattle.unit.specs.declared.IndexAnswer.{IndexAnswer}
use Rattle.unit.specs.Control.{control_of}
use Rattle.unit.specs.Operand.{count}
use Rattle.unit.specs.Compare.{operands, int_res1, int_res2}
use Rattle.unit.specs.Output.{index_of}
use Rattle.unit.specs.Calls.{PCMPESTRI}
use Rattle.unit.specs.Elements.{Reading}
use Rattle.unit.proofs.Elements.{part_is}
use Rattle.unit.proofs.Unit.{any_bit, ranges_bit}
use Rattle.blocks.specs.Blocks.{operand_of, compare_index}
use Rattle.blocks.proofs.Compares.{part_size, parts_index}
use Rattle.spans.specs.declared.Members.{Members}
use Rattle.spans.specs.declared.Members.TheVariants.{Listed, Bounded}
use Rattle.spans.specs.Spans.{span_length}
use Rattle.spans.proofs.Fronts.{within}
use Rattle.spans.specs.BlockFront.{belongs, span_control, block, front_index}

-- ---- one block

-- a bit of the negated compare: past the block's end it is set
outside_bit : (t v : Bool) → not (t && v) ≡ cond v (not t) true
outside_bit true true = refl
outside_bit true false = refl
outside_bit false true = refl
outside_bit false false = refl

module _ (words : Bool) (members : Members) (list block : List ℕ) where
  -- bit j: element j of the block does not belong, or there is none
  abbrev pub outside : ℕ → Bool
  outside j = cond (ltb j (length block)) (not (belongs words members list (get_or block j 0))) true

module _ (list block : List ℕ) where
  any_outside : (k : Control) (w : Bool) → k.words ≡ w → length list ≤ count w → (a : k.aggregation ≡ EqualAny) → (j : ℕ) → not (int_res1 (operands k list (length list) block (length block)) j) ≡ outside w Listed list block j
  any_outside k w e h a j =
      ap not (sym (any_bit k w e list (length list) block (length block) h a j))
      ∙ outside_bit (belongs w Listed list (get_or block j 0)) (ltb j (length block))

  ranges_outside : (k : Control) (w : Bool) → k.words ≡ w → length list ≤ count w → (a : k.aggregation ≡ Ranges) → (j : ℕ) → not (int_res1 (operands k list (length list) block (length block)) j) ≡ outside w (Bounded k.signed) list block j
  ranges_outside k w e h a j =
      ap not (sym (ranges_bit k w e list (length list) block (length block) h a j))
      ∙ outside_bit (belongs w (Bounded k.signed) list (get_or block j 0)) (ltb j (length block))

  -- the index is that of the first element that does not belong, or the block's length
  span_index : (words : Bool) (members : Members) → length list ≤ count words → length block ≤ count words → compare_index words (span_control members) list block ≡ least_below (count words) (outside words members list block)
  unfolding compare_index PCMPESTRI control_of index_of int_res2
  span_index false Listed h g = parts_index (control_of 0x10) list block h g ∙ (λ t. least_below 16 (λ j. any_outside (control_of 0x10) false refl h refl j t))
  span_index true Listed h g = parts_index (control_of 0x11) list block h g ∙ (λ t. least_below 8 (λ j. any_outside (control_of 0x11) true refl h refl j t))
  span_index false (Bounded false) h g = parts_index (control_of 0x14) list block h g ∙ (λ t. least_below 16 (λ j. ranges_outside (control_of 0x14) false refl h refl j t))
  span_index true (Bounded false) h g = parts_index (control_of 0x15) list block h g ∙ (λ t. least_below 8 (λ j. ranges_outside (control_of 0x15) true refl h refl j t))
  span_index false (Bounded true) h g = parts_index (control_of 0x16) list block h g ∙ (λ t. least_below 16 (λ j. ranges_outside (control_of 0x16) false refl h refl j t))
  span_index true (Bounded true) h g = parts_index (control_of 0x17) list block h g ∙ (λ t. least_below 8 (λ j. ranges_outside (control_of 0x17) true refl h refl j t))

-- ---- the compare as code makes it

pub front_called : {A : Type 0} {numbers : List A → List ℕ} {number : A → ℕ} (r : Reading numbers number) (words : Bool) (xs : List A) (o b : List ℕ) (i e c l : ℕ) (answer : IndexAnswer) → e ≡ min (i + count words) (length xs) → i ≤ length xs → b ≡ operand_of words (numbers (take (e - i) (drop i xs))) → answer ≡ PCMPESTRI o (pos l) b (pos (e - i)) c → answer.index ≡ front_index words o l (numbers xs) i c
unfolding front_index
front_called {A} {numbers} r words xs o b i e c l answer he hi hb ha =
    let text = numbers xs in
    let end : e ≡ min (i + count words) (length text) = omega (arith, r.long xs) in
    let size : e - i ≡ length (block words i text) = rw end (sym (part_size i (min (i + count words) (length text)) text (omega (arith, r.long xs)))) in
    let operand : b ≡ operand_of words (block words i text) = hb ∙ ap (operand_of words) (part_is r i e xs ∙ (λ t. take (end t - i) (drop i text))) in
    ap (λ (a : IndexAnswer). a.index) ha ∙ (λ t. (PCMPESTRI o (pos l) (operand t) (pos (size t)) c).index)

-- ---- the blocks of a text

-- every element before i belongs
abbrev pub ClearTo : Bool → Members → List ℕ → List ℕ → ℕ → Type 0
ClearTo words members list text i = (j : ℕ) → j < i → not (belongs words members list (get_or text j 0)) ≡ false

-- the lists of the code are read as numbers
module _ {A : Type 0} {numbers : List A → List ℕ} {number : A → ℕ} (r : Reading numbers number) (words : Bool) (members : Members) (ls xs : List A) where
  abbrev list : List ℕ
  list = numbers ls

  abbrev text : List ℕ
  text = numbers xs

  abbrev outside_at : ℕ → Bool
  outside_at j = not (belongs words members list (get_or text j 0))

  -- k is the length of the run, which lies in the text
  abbrev pub IsSpan : ℕ → Type 0
  IsSpan k = (k ≡ span_length (belongs words members list) text) × (k ≤ length xs)

  is_span : (k : ℕ) → k ≡ span_length (belongs words members list) text → IsSpan k
  is_span k e = (e, omega (arith, r.long xs, within (belongs words members list) text))

  whole_text : (i : ℕ) → i ≡ length text → ClearTo words members list text i → i ≡ span_length (belongs words members list) text
  unfolding span_length
  whole_text i e clear = e ∙ sym (least_none (length text) outside_at (λ j h. clear j (omega arith)))

  -- past the last block
  pub span_whole : (i : ℕ) → i ≡ length xs → ClearTo words members list text i → IsSpan (length xs)
  span_whole i e clear = rw e at (is_span i (whole_text i (omega (arith, r.long xs)) clear))

  -- the block from i on, whose index is k, as the loop asks for it
  module _ (i k c : ℕ) (o : List ℕ) (ho : o ≡ operand_of words list) (hc : c ≡ span_control members + cond words 1 0) (hs : length ls ≤ count words) (hi : i < length xs) (clear : ClearTo words members list text i) (hk : k ≡ front_index words o (length ls) text i c) where
    abbrev size : ℕ
    size = min (i + count words) (length text) - i

    abbrev bit : ℕ → Bool
    bit = outside words members list (block words i text)

    long : length text ≡ length xs
    long = r.long xs

    block_size : length (block words i text) ≡ size
    block_size = part_size i (min (i + count words) (length text)) text (omega (arith, long))

    compared : k ≡ compare_index words (span_control members) list (block words i text)
    unfolding front_index compare_index
    compared = hk ∙ (λ t. (PCMPESTRI (ho t) (pos (sym (r.long ls) t)) (operand_of words (block words i text)) (pos (length (block words i text))) (hc t)).index)

    least : k ≡ least_below (count words) bit
    least = compared ∙ span_index list (block words i text) words members (omega (arith, r.long ls)) (omega (arith, block_size))

    inside : (j : ℕ) → j < size → bit j ≡ outside_at (i + j)
    inside j h =
        rw (block_size, lt-ltb j size h)
        (ap (λ (x : ℕ). not (belongs words members list x)) (get_or-take size (drop i text) j 0 h ∙ get_or-drop i text j 0))

    past : (j : ℕ) → size ≤ j → bit j ≡ true
    past j h = rw (block_size, le-ltb j size h)

    below : (j : ℕ) → j < k → bit j ≡ false
    below j h = least_before (count words) bit j (rw least at h)

    -- the bit past the block's end is set, so the index is the block's size at most
    within_block : size < count words → k ≤ size
    within_block h =
        by_order size k
        (λ u. let t : bit size ≡ true = past size (omega arith) in let f : bit size ≡ false = below size u in cc)
        (λ u. u)

    before : (j : ℕ) → j < i + k → j < i + size → outside_at j ≡ false
    before j h g =
        by_order j i (clear j)
        (λ u. let d : i + (j - i) ≡ j = omega arith in rw d at (sym (inside (j - i) (omega arith)) ∙ below (j - i) (omega arith)))

    -- The whole block belongs. Only a block that is whole has an index of b.
    whole : count words ≤ k → size ≡ count words
    whole h = by_order size (count words) (λ u. absurd (omega (arith, within_block u))) (λ u. omega arith)

    pub span_goes_on : count words ≤ k → (i + count words ≤ length xs) × ClearTo words members list text (i + count words)
    span_goes_on h = (omega (arith, whole h, long), λ j g. before j (omega arith) (omega (arith, whole h)))

    -- Where k is not in the block, the block is the text's last and belongs whole.
    ends : k < count words → i + k ≡ span_length (belongs words members list) text
    unfolding span_length
    ends h =
        let set : bit k ≡ true = rw (sym least) at (least_passes (count words) bit (rw (sym least) h)) in
        by_order k size
        (λ g. sym (least_at (length text) outside_at (i + k) (omega (arith, long)) (λ j u. before j u (omega arith)) (sym (inside k g) ∙ set)))
        (λ g. whole_text (i + k) (omega (arith, within_block (omega arith), long)) (λ j v. before j v (omega (arith, within_block (omega arith)))))

    pub span_ends : k < count words → IsSpan (i + k)
    span_ends h = is_span (i + k) (ends h)
