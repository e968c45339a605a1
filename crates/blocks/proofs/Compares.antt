-- A compare of two parts. The unit sees operands that are zero past the part's end; by the theorem
-- on valid elements its answer is that for the parts themselves. Assumes nothing.
use Prim.Native.Nat.{ℕ, ◌+◌, ◌*◌, ◌-◌, ◌/◌, ◌%◌, ◌≤◌, ◌<◌}
use mathlib.Core.Path.{◌≡◌, ap, ◌∙◌}
use mathlib.Core.Bool.{Bool, true, false, cond, not}
use mathlib.Core.List.{List}
use lib.Dec.{eqb}
use lib.ListN.{length, get_or, take, drop, length-take, length-drop}
use lib.IntN.{ℤ, pos}
use native.Mathlib.Omega.{arith}
use borrow.Author.Tests.{eq-eqb, ne_eqb}
use Rattle.bits.specs.Bits.{least_below, greatest_below, tabulate}
use Rattle.bits.proofs.Lists.{get_or_tabulate}
use Rattle.unit.specs.declared.Control.{Control}
use Rattle.unit.specs.Control.{control_of}
use Rattle.unit.specs.Operand.{count, elements, word_at, words_of, explicit_length}
use Rattle.unit.specs.Compare.{operands, bool_res, int_res1, int_res2}
use Rattle.unit.specs.Output.{index_of}
use Rattle.unit.specs.Calls.{explicit, PCMPESTRI}
use Rattle.unit.specs.Modes.{each_of}
use Rattle.unit.proofs.ValidElements.{bits_same}
use Rattle.blocks.specs.Blocks.{operand_of, compare_index, each_negated}

-- ---- a part of a text, and its operand

pub part_size : (i e : ℕ) (xs : List ℕ) → e ≤ length xs → length (take (e - i) (drop i xs)) ≡ e - i
part_size i e xs h = rw (length-take, length-drop) (omega arith)

-- two bytes make up the word
word_back : (v : ℕ) → v % 256 + 256 * (v / 256) ≡ v
word_back v = omega arith

-- element i of the operand is element i of the part
pub element_is : (words : Bool) (x : List ℕ) (i : ℕ) → i < count words → get_or (elements words (operand_of words x)) i 0 ≡ get_or x i 0
unfolding operand_of words_of
element_is false x i h = get_or_tabulate 16 i (λ i. get_or x i 0) 0 h
element_is true x i h =
    let byte : ℕ → ℕ = λ i. cond (eqb (i % 2) 0) (get_or x (i / 2) 0 % 256) (get_or x (i / 2) 0 / 256) in
    let even : 2 * i / 2 ≡ i = omega arith in
    let odd : (2 * i + 1) / 2 ≡ i = omega arith in
    get_or_tabulate 8 i (word_at (tabulate 16 byte)) 0 h
    ∙ rw (get_or_tabulate 16 (2 * i) byte 0 (omega arith), get_or_tabulate 16 (2 * i + 1) byte 0 (omega arith), eq-eqb (2 * i % 2) 0 (omega arith), ne_eqb ((2 * i + 1) % 2) 0 (λ e. omega arith), even, odd) (word_back (get_or x i 0))

length_is : (words : Bool) (x : List ℕ) → length x ≤ count words → explicit_length (count words) (pos (length x)) ≡ length x
unfolding explicit_length
length_is words x h = omega arith

-- the index of the operands is the index of the parts
pub parts_index : (k : Control) (x y : List ℕ) → length x ≤ count k.words → length y ≤ count k.words
    → index_of (explicit (operand_of k.words x) (pos (length x)) (operand_of k.words y) (pos (length y)) k) ≡ index_of (operands k x (length x) y (length y))
unfolding index_of
parts_index k x y hx hy =
    let b = count k.words in
    let x' = elements k.words (operand_of k.words x) in
    let y' = elements k.words (operand_of k.words y) in
    ap (λ (bits : ℕ → Bool). cond k.high (greatest_below b bits b) (least_below b bits))
    ((λ t. int_res2 (operands k x' (length_is k.words x hx t) y' (length_is k.words y hy t)))
    ∙ bits_same k (length x) (length y) x' y' x y (λ i h. element_is k.words x i (omega arith)) (λ i h. element_is k.words y i (omega arith)))

-- a compare as code makes it: the operands filled, the lengths handed over as signed numbers
pub compare_called : (words : Bool) (c : ℕ) (x y o₁ o₂ : List ℕ) (z₁ z₂ : ℤ) → o₁ ≡ operand_of words x → z₁ ≡ pos (length x) → o₂ ≡ operand_of words y → z₂ ≡ pos (length y) → (PCMPESTRI o₁ z₁ o₂ z₂ (c + cond words 1 0)).index ≡ compare_index words c x y
unfolding compare_index
compare_called words c x y o₁ o₂ z₁ z₂ p₁ q₁ p₂ q₂ t = (PCMPESTRI (p₁ t) (q₁ t) (p₂ t) (q₂ t) (c + cond words 1 0)).index

-- ---- equal each, negated

-- bit j: the parts differ there
abbrev pub each_bit : List ℕ → List ℕ → ℕ → Bool
each_bit x y j = not (each_of x (length x) y (length y) j)

pub each_is : (words : Bool) (x y : List ℕ) → length x ≤ count words → length y ≤ count words → compare_index words each_negated x y ≡ least_below (count words) (each_bit x y)
unfolding compare_index PCMPESTRI control_of index_of int_res2 int_res1 bool_res
each_is true x y hx hy = parts_index (control_of 0x19) x y hx hy
each_is false x y hx hy = parts_index (control_of 0x18) x y hx hy
