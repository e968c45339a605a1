-- The scan, block by block: how it goes on past a block whose index is b and how it ends, what it
-- tells a caller, and that a block in which the first four letters stand nowhere has index b: where
-- the operand fitted, each of them would stand. Assumes nothing.
use Prim.Native.Nat.{ℕ, ◌+◌, ◌*◌, ◌-◌, ◌/◌, ◌%◌, ◌≤◌, ◌<◌, min, zero-le}
use mathlib.Core.Path.{◌≡◌, refl, sym, ap, ◌∙◌}
use mathlib.Core.Bool.{Bool, true, false, not, ◌&&◌, ◌||◌, or-false}
use mathlib.Core.List.{List}
use lib.Dec.{eqb, leb, ltb}
use lib.ListN.{length, get_or, take, drop, length-take, length-drop}
use lib.Seq.{get_or-take}
use native.Mathlib.Omega.{arith}
use borrow.Author.Count.{below_more}
use borrow.Author.Tests.{eq-eqb, eqb-true, le-leb, lt-leb, le-ltb, lt-ltb, ne_eqb, not-false}
use Rattle.std.proofs.lemmas.Bool.{or_parts}
use Rattle.bits.specs.Bits.{least_below, tabulate}
use Rattle.bits.proofs.Below.{by_order, by_test, or_true, least_at, least_before, least_none, least_passes, least_within, all_each, each_all}
use Rattle.bits.proofs.Lists.{get_or_tabulate}
use Rattle.blocks.specs.Blocks.{index_at, operand_of, ordered}
use Rattle.blocks.proofs.Compares.{element_is}
use Rattle.unit.specs.Elements.{Reading}
use Rattle.unit.proofs.Elements.{part_is}
use Rattle.unit.proofs.Unit.{count_most, count_some}
use Rattle.unit.specs.declared.Aggregation.TheVariants.{EqualOrdered}
use Rattle.unit.specs.Control.{control_of}
use Rattle.unit.specs.Operand.{count, elements, explicit_length}
use Rattle.unit.specs.Compare.{override, bool_res, int_res1, int_res2}
use Rattle.unit.specs.Output.{index_of}
use Rattle.unit.specs.Calls.{PCMPESTRI}
use Rattle.unit.specs.Modes.{follows, ordered_of}
use Rattle.scan.specs.Scan.{whole_blocks, index_in, scanned, first_found, scan_of}
use Rattle.scan.specs.Letters.{unasked_in, stands_at, starts_at, Passed, Testable}

-- ---- how the scan goes on, and how it ends

module _ (words : Bool) (operand1 : List ℕ) (l : ℕ) (part : List ℕ) where
  abbrev index : ℕ → ℕ
  index = index_in words operand1 l part

  abbrev found : ℕ → Bool
  found i = not (eqb (index i) (count words))

  pub passed_start : Passed words operand1 l part 0
  passed_start = record { within = zero-le; each = λ k h. absurd (omega arith) }

  pub passed_more : (i : ℕ) → Passed words operand1 l part i → i < whole_blocks words part → index i ≡ count words → Passed words operand1 l part (i + 1)
  passed_more i c h e = record { within = omega arith; each = below_more (λ k. index k ≡ count words) i c.each e }

  none_found : (i : ℕ) → Passed words operand1 l part i → (k : ℕ) → k < i → found k ≡ false
  none_found i c k h = rw (eq-eqb (index k) (count words) (c.each k h))

  -- it ends at a block whose index is not b
  pub scan_ended : (i k : ℕ) → Passed words operand1 l part i → i < whole_blocks words part → k ≡ index i → (k ≡ count words → ⊥) → scanned i k ≡ scan_of words operand1 l part
  unfolding scan_of
  scan_ended i k c h e other =
      let at : first_found words operand1 l part ≡ i =
      least_at (whole_blocks words part) found i h (none_found i c) (rw (ne_eqb (index i) (count words) (λ q. other (e ∙ q)))) in
      rw (at, lt-ltb i (whole_blocks words part) h) (ap (scanned i) e)

  -- it ends where no whole block is left
  pub scan_over : (i : ℕ) → Passed words operand1 l part i → whole_blocks words part ≤ i → scanned i (count words) ≡ scan_of words operand1 l part
  unfolding scan_of
  scan_over i c h =
      let all : whole_blocks words part ≡ i = omega (arith, c.within) in
      let at : first_found words operand1 l part ≡ i = least_none (whole_blocks words part) found (λ k g. none_found i c k (omega arith)) ∙ all in
      rw (at, le-ltb i (whole_blocks words part) h)

  -- ---- what it tells

  pub scan_passed : Passed words operand1 l part (scan_of words operand1 l part).blocks
  unfolding scan_of
  scan_passed = record {
    within = least_within (whole_blocks words part) found;
    each = λ k h. eqb-true (index k) (count words) (not-false (eqb (index k) (count words)) (least_before (whole_blocks words part) found k h));
  }

  -- its index is b only where no block is left, and else that of the next block
  pub scan_none : (scan_of words operand1 l part).index ≡ count words → (scan_of words operand1 l part).blocks ≡ whole_blocks words part
  unfolding scan_of
  scan_none e =
      let i = first_found words operand1 l part in
      by_order i (whole_blocks words part)
      (λ h. let b : index i ≡ count words = rw (lt-ltb i (whole_blocks words part) h) at e in
      let t : found i ≡ true = least_passes (whole_blocks words part) found h in
      let f : false ≡ true = rw (eq-eqb (index i) (count words) b) at t in
      let z : ◌≡◌ {A = ℕ} 0 1 = cc in absurd (omega arith))
      (λ h. omega (arith, least_within (whole_blocks words part) found))

  pub scan_index : ((scan_of words operand1 l part).index ≡ count words → ⊥)
      → ((scan_of words operand1 l part).blocks < whole_blocks words part) × (index (scan_of words operand1 l part).blocks ≡ (scan_of words operand1 l part).index)
  unfolding scan_of
  scan_index other =
      let i = first_found words operand1 l part in
      by_order i (whole_blocks words part)
      (λ h. (h, rw (lt-ltb i (whole_blocks words part) h)))
      (λ h. absurd (other (rw (le-ltb i (whole_blocks words part) h))))

-- ---- the scan as code makes it, in blocks of b of a part whose elements are read as numbers

pub block_room : (words : Bool) (i n : ℕ) → i < n / count words → i * count words + count words ≤ n
block_room true i n h = omega arith
block_room false i n h = omega arith

module _ {A : Type 0} {numbers : List A → List ℕ} {number : A → ℕ} (r : Reading numbers number) (words : Bool) (operand1 : List ℕ) (l : ℕ) (part : List A) (b : ℕ) (is : b ≡ count words) where
  blocks_are : length part / b ≡ whole_blocks words (numbers part)
  blocks_are = rw (is, r.long part) refl

  -- whether there is a block at all
  pub no_block : length part < b → length part / b ≤ 0
  no_block h = rw is (none words (length part) (rw is at h))
    where
      none : (words : Bool) (n : ℕ) → n < count words → n / count words ≤ 0
      none true n h = omega arith
      none false n h = omega arith

  pub a_block : b ≤ length part → 0 < length part / b
  a_block h = rw is (some words (length part) (rw is at h))
    where
      some : (words : Bool) (n : ℕ) → count words ≤ n → 0 < n / count words
      some true n h = omega arith
      some false n h = omega arith

  -- one compare; o is the operand filled from block i, the m elements from p on
  pub compared : (i p m k : ℕ) (o : List ℕ) → p ≡ i * b → m ≡ b → k ≡ index_at words ordered operand1 l o b
      → o ≡ operand_of words (numbers (take m (drop p part)))
      → k ≡ index_in words operand1 l (numbers part) i
  unfolding index_in
  compared i p m k o at size h f =
      let block : o ≡ operand_of words (take (count words) (drop (i * count words) (numbers part))) =
      f ∙ ap (operand_of words) (r.front m (drop p part) ∙ ap (take m) (r.rest p part)) ∙ rw (size, at, is) refl in
      h ∙ (λ t. index_at words ordered operand1 l (block t) (is t))

  -- it ends there where the index is not b
  pub ended : (i k : ℕ) → Passed words operand1 l (numbers part) i → i < length part / b
      → k ≡ index_in words operand1 l (numbers part) i
      → (k ≡ b → ⊥)
      → scanned i k ≡ scan_of words operand1 l (numbers part)
  ended i k c h e other = scan_ended words operand1 l (numbers part) i k c (rw blocks_are at h) e (λ q. other (q ∙ sym is))

  -- or goes on
  pub more : (i k : ℕ) → Passed words operand1 l (numbers part) i → i < length part / b
      → k ≡ index_in words operand1 l (numbers part) i
      → k ≡ b
      → Passed words operand1 l (numbers part) (i + 1)
  more i k c h e none = passed_more words operand1 l (numbers part) i c (rw blocks_are at h) (sym e ∙ none ∙ is)

  pub over : (i : ℕ) → Passed words operand1 l (numbers part) i → length part / b ≤ i
      → scanned i b ≡ scan_of words operand1 l (numbers part)
  over i c h = ap (scanned i) is ∙ scan_over words operand1 l (numbers part) i c (rw blocks_are at h)

-- ---- the bits of a compare

both : (v r : Bool) → override EqualOrdered true v r ≡ true → r ≡ true
both true r e = e
both false r e = cc

module _ (words : Bool) (operand1 : List ℕ) (l : ℕ) (part : List ℕ) (i : ℕ) where
  abbrev from : List ℕ
  from = drop (i * count words) part

  abbrev fits : ℕ → Bool
  fits = ordered_of (count words) (elements words operand1) (min (count words) l) (elements words (operand_of words (take (count words) from))) (count words)

index_is : (words : Bool) (operand1 : List ℕ) (l : ℕ) (part : List ℕ) (i : ℕ) → index_in words operand1 l part i ≡ least_below (count words) (fits words operand1 l part i)
unfolding index_in PCMPESTRI control_of index_of int_res2 int_res1 bool_res explicit_length
index_is true operand1 l part i = refl
index_is false operand1 l part i = refl

-- an operand of no letters stands at place 0 of every block
pub index_empty : (words : Bool) (operand1 part : List ℕ) (i : ℕ) → index_in words operand1 0 part i ≡ 0
index_empty words operand1 part i =
    let b = count words in
    index_is words operand1 0 part i
    ∙ least_at b (fits words operand1 0 part i) 0 (count_some words) (λ k h. absurd (omega arith))
    (each_all (b - 0) (follows (elements words operand1) (min b 0) (elements words (operand_of words (take b (from words operand1 0 part i)))) b 0)
    (λ k h. rw (le-ltb k (min b 0) (omega arith))))

-- so one whose index is b has a letter
pub some_letters : (words : Bool) (operand1 : List ℕ) (l : ℕ) (part : List ℕ) (i : ℕ) → index_in words operand1 l part i ≡ count words → 0 < l
some_letters words operand1 l part i e =
    by_order 0 l (λ h. h)
    (λ h. let none : l ≡ 0 = omega arith in
    let z : 0 ≡ count words = sym (index_empty words operand1 part i) ∙ rw none at e in
    absurd (omega (arith, count_some words)))

-- ---- the blocks that the letters rule out

-- the first letter of an operand is asked for everywhere
pub first_asked : (words : Bool) (u : List Bool) (l : ℕ) → 0 < l → u ≡ tabulate 64 (unasked_in (count words) l) → (j : ℕ) → j < count words → get_or u j false ≡ false
first_asked words u l some rows j h =
    let most = count_most words in
    let row : j / 16 ≡ 0 = omega arith in
    let place : j % 16 ≡ j = omega arith in
    rw rows (get_or_tabulate 64 j (unasked_in (count words) l) false (omega arith) ∙ rw (row, place, lt-leb l 0 some, lt-leb (count words) (0 + j) (omega arith)))

module _ (words : Bool) (operand1 : List ℕ) (l : ℕ) (part : List ℕ) (i : ℕ) (u : List Bool) (rows : u ≡ tabulate 64 (unasked_in (count words) l)) where
  abbrev text : List ℕ
  text = from words operand1 l part i

  abbrev letters : List ℕ
  letters = elements words operand1

  -- where the operand fits, each letter that it has stands in the block
  letter_stands : (j k : ℕ) → fits words operand1 l part i j ≡ true → k < l → j + k < count words → eqb (get_or text (j + k) 0) (get_or letters k 0) ≡ true
  letter_stands j k t hl hb =
      let b = count words in
      let y = elements words (operand_of words (take b text)) in
      let v : follows letters (min b l) y b j k ≡ true = all_each (b - j) (follows letters (min b l) y b j) t k (omega arith) in
      let w = both (ltb (j + k) b) (eqb (get_or y (j + k) 0) (get_or letters k 0)) (rw (lt-ltb k (min b l) (omega arith)) at v) in
      rw (sym (get_or-take b text (j + k) 0 hb), sym (element_is words (take b text) (j + k) hb)) w

  row_is : (j k : ℕ) → j < 16 → k ≤ 3 → get_or u (16 * k + j) false ≡ leb l k || leb (count words) (k + j)
  row_is j k h three =
      let row : (16 * k + j) / 16 ≡ k = omega arith in
      let place : (16 * k + j) % 16 ≡ j = omega arith in
      rw rows (get_or_tabulate 64 (16 * k + j) (unasked_in (count words) l) false (omega arith) ∙ rw (row, place))

  -- or is not asked for
  stands_there : (j k : ℕ) → fits words operand1 l part i j ≡ true → j < count words → k ≤ 3 → stands_at text (get_or letters k 0) u j k ≡ true
  stands_there j k t h three =
      let most = count_most words in
      let row = row_is j k (omega arith) three in
      let e = eqb (get_or text (j + k) 0) (get_or letters k 0) in
      by_order k l
      (λ hl. by_order (k + j) (count words)
      (λ hb. rw (letter_stands j k t hl (omega arith)))
      (λ hb. rw (row, le-leb (count words) (k + j) hb, or_true (leb l k), or_true e)))
      (λ hl. rw (row, le-leb l k hl, or_true e))

  -- Where the four letters stand at no place of the block, its index is b.
  pub ruled_out : ((j : ℕ) → j < count words → starts_at text letters u j ≡ false) → index_in words operand1 l part i ≡ count words
  ruled_out nowhere =
      index_is words operand1 l part i
      ∙ least_none (count words) (fits words operand1 l part i)
      (λ j h. by_test (fits words operand1 l part i j)
      (λ t. let s : starts_at text letters u j ≡ true = rw (stands_there j 0 t h (omega arith), stands_there j 1 t h (omega arith), stands_there j 2 t h (omega arith), stands_there j 3 t h (omega arith)) in
      let e = nowhere j h in
      let z : ◌≡◌ {A = ℕ} 0 1 = cc in
      absurd (omega arith))
      (λ t. t))

  -- the letters read with the elements ahead are the same
  letter_same : (n j k x : ℕ) → j + k < n → stands_at text x u j k ≡ stands_at (take n text) x u j k
  letter_same n j k x h = ap (λ (v : ℕ). eqb v x || get_or u (16 * k + j) false) (sym (get_or-take n text (j + k) 0 h))

  -- so it is enough that they stand nowhere in the first n elements from the block on
  pub ruled_out_ahead : (n : ℕ) → count words + 3 ≤ n → ((j : ℕ) → j < count words → starts_at (take n text) letters u j ≡ false) → index_in words operand1 l part i ≡ count words
  ruled_out_ahead n room none =
      ruled_out
      (λ j g. rw (letter_same n j 0 (get_or letters 0 0) (omega arith), letter_same n j 1 (get_or letters 1 0) (omega arith), letter_same n j 2 (get_or letters 2 0) (omega arith), letter_same n j 3 (get_or letters 3 0) (omega arith))
      (none j g))

-- ---- one turn of `pass`: a block of b elements with those ahead of it

ahead_room : (words : Bool) (i n : ℕ) → i < (n - min n 3) / count words → i * count words + count words + 3 ≤ n
ahead_room true i n h = omega arith
ahead_room false i n h = omega arith

module _ {A : Type 0} {numbers : List A → List ℕ} {number : A → ℕ} (r : Reading numbers number) (words : Bool) (operand1 : List ℕ) (l : ℕ) (part : List A) (u : List Bool) (b i : ℕ) (is : b ≡ count words) (rows : u ≡ tabulate 64 (unasked_in b l)) (m : ℕ) (few : m ≡ min (length part) 3) (h : i < (length part - m) / b) where
  -- it leaves room for the elements ahead
  room : i * count words + count words + 3 ≤ length part
  room = ahead_room words i (length part) (rw (is, few) at h)

  pub testable : 0 < l → Testable words (numbers (take (i * b + b + 3 - i * b) (drop (i * b) part))) u
  testable some =
      record {
        size = r.long (take (i * b + b + 3 - i * b) (drop (i * b) part)) ∙ rw (length-take, length-drop, is) (omega (arith, room));
        asked = first_asked words u l some (rows ∙ ap (λ (m : ℕ). tabulate 64 (unasked_in m l)) is);
      }

  -- and where the letters stand nowhere, it is passed
  pub block_passed : Passed words operand1 l (numbers part) i
      → ((j : ℕ) → j < count words → starts_at (numbers (take (i * b + b + 3 - i * b) (drop (i * b) part))) (elements words operand1) u j ≡ false)
      → Passed words operand1 l (numbers part) (i + 1)
  block_passed c none =
      let n = i * count words + count words + 3 - i * count words in
      let same : numbers (take (i * b + b + 3 - i * b) (drop (i * b) part)) ≡ take n (drop (i * count words) (numbers part)) = part_is r (i * b) (i * b + b + 3) part ∙ rw is refl in
      passed_more words operand1 l (numbers part) i c
      (rw (r.long part) (within words i (length part) room))
      (ruled_out_ahead words operand1 l (numbers part) i u (rows ∙ ap (λ (m : ℕ). tabulate 64 (unasked_in m l)) is) n (omega arith) (rw same at none))
    where
      within : (words : Bool) (i n : ℕ) → i * count words + count words + 3 ≤ n → i < n / count words
      within true i n h = omega arith
      within false i n h = omega arith

-- ---- one turn of `may_start`

-- a letter that is asked for stands where its element is
pub first_letter : (y : List ℕ) (x : ℕ) (u : List Bool) (j : ℕ) → get_or u j false ≡ false → stands_at y x u j 0 ≡ eqb (get_or y j 0) x
first_letter y x u j e =
    let at : j + 0 ≡ j = omega arith in
    let row : 16 * 0 + j ≡ j = omega arith in
    rw (at, row, e) (or-false (eqb (get_or y j 0) x))

-- One place more where nothing is found; s0 to s3 are what the tests of the letters say at j.
pub place_more : (y xs : List ℕ) (u : List Bool) (found : Bool) (j : ℕ) (s0 s1 s2 s3 : Bool) → s0 ≡ stands_at y (get_or xs 0 0) u j 0
    → s1 ≡ stands_at y (get_or xs 1 0) u j 1
    → s2 ≡ stands_at y (get_or xs 2 0) u j 2
    → s3 ≡ stands_at y (get_or xs 3 0) u j 3
    → (found ≡ false → (k : ℕ) → k < j → starts_at y xs u k ≡ false)
    → (found || (((s0 && s1) && s2) && s3)) ≡ false
    → (k : ℕ) → k < j + 1
    → starts_at y xs u k ≡ false
place_more y xs u found j s0 s1 s2 s3 e0 e1 e2 e3 before z =
    let n = or_parts found (((s0 && s1) && s2) && s3) z in
    below_more (λ k. starts_at y xs u k ≡ false) j (before n.0) (sym (λ t. ((e0 t && e1 t) && e2 t) && e3 t) ∙ n.1)
