-- A scan is steps of the walk: past each block whose index is b the walk goes on, and the scan's
-- last index is that of the walk's compare there. Assumes nothing.
use Prim.Native.Nat.{ℕ, zero, suc, ◌+◌, ◌*◌, ◌-◌, ◌/◌, ◌≤◌, ◌<◌, min}
use mathlib.Core.Path.{◌≡◌, refl, sym, ap, ◌∙◌}
use mathlib.Core.Bool.{Bool, true, false, cond}
use mathlib.Core.List.{List}
use lib.Dec.{eqb}
use lib.ListN.{length, take, drop, length-take, length-drop}
use lib.Seq.{drop-drop}
use lib.IntN.{pos}
use native.Mathlib.Omega.{arith}
use native.Mathlib.Nat.{add-zero, mul_comm, suc-mul, zero-add, zero-mul}
use native.Mathlib.Numerals.{add-one}
use Rattle.bits.proofs.Below.{by_order}
use Rattle.blocks.specs.Blocks.{longest_text, operand_of}
use Rattle.blocks.proofs.Compares.{part_size}
use Rattle.unit.specs.Elements.{Reading}
use Rattle.unit.specs.Operand.{count}
use Rattle.unit.proofs.Elements.{part_is as numbers_of_part}
use Rattle.unit.specs.Calls.{PCMPESTRI}
use Rattle.scan.specs.declared.Scanned.{Scanned}
use Rattle.scan.specs.Scan.{index_in, scan_of}
use Rattle.scan.proofs.Scans.{block_room, scan_index, scan_none, scan_passed}
use Rattle.search.specs.declared.Cursor.{Cursor}
use Rattle.search.specs.declared.Stepped.{Stepped}
use Rattle.search.specs.Cursors.{moved}
use Rattle.search.specs.Moves.{Led, Ready, Room, later_at, many_compares, missed_by, reached, rested, total}
use Rattle.search.specs.Walk.{ordered, first_index, Ended, match_at, nowhere, plus, walk}
use Rattle.unit.proofs.Unit.{count_some}
use Rattle.search.proofs.Pieces.{part_of, some_left}
use Rattle.search.proofs.Steps.{first_called, first_most, step_fits, step_index, step_none}
use Rattle.search.proofs.Walks.{plus_plus, walk_onward}
use Rattle.search.proofs.Turns.{led_on, led_onward, led_rested}

plus_none : (e : Ended) → plus 0 e ≡ e
plus_none (match_at p n) = rw (zero-add n)
plus_none (nowhere n) = rw (zero-add n)

-- i of the whole blocks of n elements, and one more where there are fewer than all
blocks_end : (words : Bool) (n i : ℕ) → i ≤ n / count words → i * count words ≤ n
blocks_end true n i h = omega arith
blocks_end false n i h = omega arith

blocks_some : (words : Bool) (n i : ℕ) → count words ≤ n → i ≡ n / count words → 0 < i * count words
blocks_some true n i h e = omega arith
blocks_some false n i h e = omega arith

least_is : (x n : ℕ) → x ≤ n → x ≡ min x n
least_is x n h = omega arith

-- The scan s of the part of the text from the cursor's position to e. Up to e each whole block
-- leaves room for the needle, and the first is whole.
pub record Scanning (words : Bool) (text needle first : List ℕ) (l : ℕ) (c : Cursor) (e : ℕ) (s : Scanned) : Type 0 where
  pub ready : Ready words text needle first l c
  pub some : 0 < length needle
  pub end : e ≡ length text - (length needle - l)
  pub whole : count words ≤ e - c.position
  pub is : s ≡ scan_of words first l (take (e - c.position) (drop c.position text))

-- the scan that code makes of a text whose elements are read as numbers
pub scanning : {A : Type 0} {numbers : List A → List ℕ} {number : A → ℕ} (r : Reading numbers number) {words : Bool} (text needle : List A) {first : List ℕ} {l b : ℕ} {c : Cursor} {s : Scanned}
    → Ready words (numbers text) (numbers needle) first l c
    → eqb (length needle) 0 ≡ false
    → b ≡ count words
    → b ≤ length text - (length needle - l) - c.position
    → s ≡ scan_of words first l (numbers (take (length text - (length needle - l) - c.position) (drop c.position text)))
    → Scanning words (numbers text) (numbers needle) first l c (length text - (length needle - l)) s
scanning r text needle {l = l} {c = c} ready rest wide whole is =
    let some = some_left rest in
    let long = r.long text in
    let short = r.long needle in
    let e = length text - (length needle - l) in record {
      ready = ready;
      some = omega arith;
      end = omega arith;
      whole = omega arith;
      is = is ∙ ap (scan_of _ _ l) (numbers_of_part r c.position e text);
    }

module _ {words : Bool} {text needle first : List ℕ} {l : ℕ} {c : Cursor} {e : ℕ} {s : Scanned} (scan : Scanning words text needle first l c e s) where
  abbrev b : ℕ
  b = count words

  abbrev p : ℕ
  p = c.position

  abbrev part : List ℕ
  part = take (e - p) (drop p text)

  some : 0 < length needle
  some = scan.some

  size : length part ≡ e - p
  size = rw (length-take, length-drop) (omega (arith, scan.ready.room, scan.ready.size, scan.end))

  room_at : (i : ℕ) → i * b + b ≤ e - p → p + i * b + length needle ≤ length text
  room_at i h = omega (arith, scan.ready.room, scan.ready.size, scan.end)

  block_at : (i : ℕ) → i * b + b ≤ e - p → p + i * b + b ≤ length text
  block_at i h = omega (arith, scan.end)

  -- the compare of block i is the walk's first at its position
  index_first : (i : ℕ) → i * b + b ≤ e - p → index_in words first l part i ≡ first_index words text needle (p + i * b)
  unfolding index_in
  index_first i h =
      let at = p + i * b in
      let room = room_at i h in
      let l_is = scan.ready.size in
      let to : at + b - at ≡ b = omega arith in
      let long : b ≡ length (take (at + b - at) (drop at text)) = sym (part_size at (at + b) text (block_at i h) ∙ to) in
      let same : take b (drop (i * b) part) ≡ take (at + b - at) (drop at text) =
      part_of (i * b) b (e - p) (drop p text) h ∙ ap (take b) (drop-drop (i * b) p text) ∙ ap (λ (n : ℕ). take n (drop at text)) (sym to) in
      (λ t. (PCMPESTRI first (pos l) (operand_of words (same t)) (pos (long t)) (ordered + cond words 1 0)).index)
      ∙ first_called words text needle at some room l (at + b) first l_is (least_is (at + b) (length text) (block_at i h)) scan.ready.operand

  within : s.blocks ≤ (e - p) / b
  within = rw (sym size, scan.is) (scan_passed words first l part).within

  pub blocks_within : p + b * s.blocks ≤ length text
  blocks_within = omega (arith, blocks_end words (e - p) s.blocks within, mul_comm s.blocks b, scan.end, scan.ready.room)

  -- the same where b is at hand
  pub blocks_in : (b : ℕ) → b ≡ count words → p + b * s.blocks ≤ length text
  blocks_in b wide = rw wide blocks_within

  pub past_is : (b : ℕ) (a : Cursor) → b ≡ count words → a ≡ moved c (p + b * s.blocks) (c.compares + s.blocks) false → a ≡ moved c (p + count words * s.blocks) (c.compares + s.blocks) false
  past_is b a wide is = is ∙ rw wide refl

  -- there are no more of them than elements
  pub blocks_few : s.blocks ≤ length text
  blocks_few = omega (arith, fewer words s.blocks, blocks_within)
    where
      fewer : (words : Bool) (k : ℕ) → k ≤ count words * k
      fewer true k = omega arith
      fewer false k = omega arith

  -- past the first i blocks of the scan, each with one compare
  walk_past_blocks : (i : ℕ) → i ≤ s.blocks → walk words text needle p ≡ plus i (walk words text needle (p + i * b))
  walk_past_blocks zero h = rw (zero-mul b, add-zero p) (sym (plus_none (walk words text needle p)))
  walk_past_blocks (suc i) h =
      let fits = block_room words i (e - p) (omega (arith, within)) in
      let none : first_index words text needle (p + i * b) ≡ b =
      sym (index_first i fits) ∙ (scan_passed words first l part).each i (rw scan.is at h) in
      let room = room_at i fits in
      let next : p + i * b + b ≡ p + suc i * b = rw (suc-mul i b) (omega arith) in
      walk_past_blocks i (omega arith)
      ∙ ap (plus i) (walk_onward words text needle (p + i * b) (p + i * b + b) 1 (step_none words text needle (p + i * b) some room (p + i * b + b) none (least_is (p + i * b + b) (length text) (block_at i fits))))
      ∙ plus_plus i 1 (walk words text needle (p + i * b + b))
      ∙ (λ t. plus (add-one i t) (walk words text needle (next t)))

  -- ---- the cursor a, past the blocks

  module _ (a : Cursor) (is_past : a ≡ moved c (p + b * s.blocks) (c.compares + s.blocks) false) where
    past_at : p + s.blocks * b ≡ a.position
    past_at = ap (λ (n : ℕ). p + n) (mul_comm s.blocks b) ∙ ap (λ (x : Cursor). x.position) (sym is_past)

    pub past_small : a.position ≤ longest_text
    past_small = omega (arith, past_at, mul_comm s.blocks b, blocks_within, scan.ready.searchable.small)

    pub past_few : a.compares ≤ many_compares + longest_text
    past_few =
        let counted : a.compares ≡ c.compares + s.blocks = ap (λ (x : Cursor). x.compares) is_past in
        omega (arith, blocks_few, scan.ready.searchable.small, scan.ready.few)

    past_same : total words text needle a ≡ total words text needle c
    past_same =
        sym (ap (plus c.compares) (walk_past_blocks s.blocks (omega arith) ∙ ap (λ (q : ℕ). plus s.blocks (walk words text needle q)) past_at)
        ∙ plus_plus c.compares s.blocks (walk words text needle a.position)
        ∙ ap (λ (x : Cursor). plus x.compares (walk words text needle a.position)) (sym is_past))

    -- the compare there, where the scan's index is not b
    module _ (other : s.index ≡ b → ⊥) where
      there : (s.blocks < (e - p) / b) × (index_in words first l part s.blocks ≡ s.index)
      there = let t = scan_index words first l part (rw scan.is at other) in (rw (size, ← scan.is) at t.0, rw (← scan.is) at t.1)

      block_there : s.blocks * b + b ≤ e - p
      block_there = block_room words s.blocks (e - p) there.0

      past_room : a.position + length needle ≤ length text
      past_room = omega (arith, room_at s.blocks block_there, past_at)

      pub past_ready : Room words text needle l a
      past_ready = record { searchable = scan.ready.searchable; room = past_room; few = past_few; size = scan.ready.size }

      index_there : first_index words text needle a.position ≡ s.index
      index_there = ap (first_index words text needle) (sym past_at) ∙ sym (index_first s.blocks block_there) ∙ there.1

      pub index_below : s.index < b
      index_below =
          by_order s.index b (λ h. h) (λ h. absurd (other (omega (arith, index_there, first_most words text needle a.position some past_room))))

      -- an index from 1 to b - 1
      pub led_place : (r : Stepped) → 0 < s.index → r ≡ missed_by a s.index (a.compares + 1) → Led words text needle c r
      led_place r more h =
          led_on words text needle c a r past_same (omega (arith, past_at))
          (rw h
          (led_onward words text needle a (a.position + s.index) 1 s.index (step_index words text needle a.position some past_room s.index index_there more index_below) refl more (omega (arith, block_at s.blocks block_there, past_at, index_below))))

    -- index 0
    pub led_zero : (r : Stepped) → s.index ≡ 0 → r ≡ rested a (later_at words text needle a.position b) → Led words text needle c r
    led_zero r i h =
        let other : s.index ≡ b → ⊥ = λ g. omega (arith, count_some words) in
        led_on words text needle c a r past_same (omega (arith, past_at))
        (rw h
        (led_rested words text needle a some (past_room other) (later_at words text needle a.position b)
        (step_fits words text needle a.position some (past_room other) (index_there other ∙ i))))

    -- no block is left
    pub led_over : (r : Stepped) → s.index ≡ b → r ≡ missed_by a 0 a.compares → Led words text needle c r
    led_over r i h =
        let all : s.blocks ≡ (e - p) / b = rw (sym size, scan.is) (scan_none words first l part (rw scan.is at i)) in
        rw h record {
          same = rw (add-zero a.position) past_same;
          onwards = λ d f. omega (arith, ap (λ (s : Stepped). (reached s).position) f, blocks_some words (e - p) s.blocks scan.whole all, past_at);
          ahead = omega (arith, past_at);
          near = omega (arith, past_at, mul_comm s.blocks b, blocks_within);
        }
