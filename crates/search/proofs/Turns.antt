-- What one turn of the walk's loop comes to, on plain values and over the width: where a step
-- leads, and how the steps make up the walk. Assumes nothing.
use Prim.Native.Nat.{ℕ, suc, ◌+◌, ◌-◌, ◌≤◌, ◌<◌, min}
use mathlib.Core.Path.{◌≡◌, refl, sym, ap, ◌∙◌}
use mathlib.Core.Bool.{Bool, false, cond}
use mathlib.Core.List.{List}
use lib.Dec.{eqb}
use lib.ListN.{length, take, drop, length-take, length-drop}
use lib.Seq.{take-length}
use lib.IntN.{pos}
use native.Mathlib.Omega.{arith}
use native.Mathlib.Nat.{add-zero}
use Rattle.bits.proofs.Below.{by_order}
use Rattle.unit.specs.Elements.{Reading}
use Rattle.unit.specs.Operand.{count}
use Rattle.unit.proofs.Elements.{part_is}
use Rattle.unit.specs.Calls.{PCMPESTRI}
use Rattle.blocks.specs.Blocks.{longest_text, operand_of}
use Rattle.std.specs.Prelude.{Ok}
use Rattle.search.specs.declared.Cursor.{Cursor}
use Rattle.search.specs.declared.Stepped.{Stepped}
use Rattle.search.specs.declared.Stepped.TheVariants.{Found}
use Rattle.search.specs.Walk.{first_index, Later, none_differs, one_differs, more, ordered, here, onward, after_later, step, Ended, match_at, nowhere, plus, walk}
use Rattle.search.specs.Cursors.{longest_needle, most_compares, refusal, accepted, front, next_match}
use Rattle.search.specs.Moves.{Led, Ready, ended, from, later_at, many_compares, reached, rested, found_by, missed_by, total}
use Rattle.search.proofs.Pieces.{later_end, more_none, some_left}
use Rattle.search.proofs.Steps.{first_called, first_most, first_within, step_empty, step_fits, step_index, step_none, step_past}
use Rattle.search.proofs.Walks.{plus_plus, walk_here, walk_past, walk_onward, walk_compares, walk_few}
use Rattle.search.proofs.Lists.{next_accepted}

-- ---- a step leads where the walk does

module _ (words : Bool) (text needle : List ℕ) (c : Cursor) where
  pub led_here : (k : ℕ) → step words text needle c.position ≡ here k → c.position ≤ length text → Led words text needle c (found_by c (c.compares + k))
  led_here k e h = record {
    same = sym (ap (plus c.compares) (walk_here words text needle c.position k e));
    onwards = λ d f. cc;
    ahead = omega arith;
    near = omega arith;
  }

  pub led_onward : (q k by : ℕ) → step words text needle c.position ≡ onward q k → q ≡ c.position + by → 0 < by → q ≤ length text
      → Led words text needle c (missed_by c by (c.compares + k))
  led_onward q k by e at more near = record {
    same = rw (sym at) (sym (ap (plus c.compares) (walk_onward words text needle c.position q k e) ∙ plus_plus c.compares k (walk words text needle q)));
    onwards = λ d f. omega (arith, ap (λ (s : Stepped). (reached s).position) f);
    ahead = omega arith;
    near = omega arith;
  }

  -- first to the cursor a, and from there to r
  pub led_on : (a : Cursor) (r : Stepped) → total words text needle a ≡ total words text needle c → c.position ≤ a.position → Led words text needle a r → Led words text needle c r
  led_on a r e h k = record { same = k.same ∙ e; onwards = λ d f. omega (arith, k.onwards d f); ahead = omega (arith, k.ahead); near = k.near }

  -- the later pieces, with the first piece's compare, make the step
  pub led_rested : 0 < length needle → c.position + length needle ≤ length text → (l : Later) → step words text needle c.position ≡ after_later c.position l
      → Led words text needle c (rested c l)
  led_rested some room (none_differs n) e =
      let count : c.compares + 1 + n ≡ c.compares + suc n = omega arith in
      rw count (led_here (suc n) e (omega arith))
  led_rested some room (one_differs n) e =
      let count : c.compares + 1 + n ≡ c.compares + suc n = omega arith in
      rw count (led_onward (suc c.position) (suc n) 1 e (omega arith) (omega arith) (omega arith))

  -- an empty needle stands at once, with no compare
  pub led_empty : length needle ≡ 0 → c.position ≤ length text → Led words text needle c (found_by c c.compares)
  led_empty z h = rw (add-zero c.compares) at (led_here 0 (step_empty words text needle c.position z h) h)

-- The block at the text's end, of n elements and shorter than a whole one: k is the index of its
-- compare.
pub record Ending (words : Bool) (text needle : List ℕ) (c : Cursor) (n k : ℕ) : Type 0 where
  pub some : 0 < length needle
  pub room : c.position + length needle ≤ length text
  pub end : n ≡ length text - c.position
  pub less : n < count words
  pub is : k ≡ first_index words text needle c.position

-- the one that code compares, of a text whose elements are read as numbers
pub ending : {A : Type 0} {numbers : List A → List ℕ} {number : A → ℕ} (r : Reading numbers number) {words : Bool} (text needle : List A) {first o : List ℕ} {l b k : ℕ} {c : Cursor}
    → Ready words (numbers text) (numbers needle) first l c
    → eqb (length needle) 0 ≡ false
    → b ≡ count words
    → length text - (length needle - l) - c.position < b
    → o ≡ operand_of words (numbers (take (length text - (length needle - l) - c.position) (drop c.position text)))
    → k ≡ (PCMPESTRI first (pos l) o (pos (length text - (length needle - l) - c.position)) (ordered + cond words 1 0)).index
    → Ending words (numbers text) (numbers needle) c (length text - (length needle - l) - c.position) k
ending {numbers = numbers} r {words} text needle {first} {o} {l} {c = c} ready rest wide less padded is =
    let some = some_left rest in
    let long = r.long text in
    let short = r.long needle in
    let room : c.position + length (numbers needle) ≤ length (numbers text) = ready.room in
    let size = ready.size in
    let p = c.position in
    let e = length text - (length needle - l) in
    let whole : e - p ≡ length (take (e - p) (drop p (numbers text))) = rw (length-take, length-drop) (omega arith) in
    let read : o ≡ operand_of words (take (e - p) (drop p (numbers text))) = padded ∙ ap (operand_of words) (part_is r p e text) in record {
      some = omega arith;
      room = room;
      end = omega arith;
      less = omega arith;
      is =
          is
          ∙ (λ t. (PCMPESTRI first (pos l) (read t) (pos (whole t)) (ordered + cond words 1 0)).index)
          ∙ first_called words (numbers text) (numbers needle) p (omega arith) room l e first size (omega arith) ready.operand;
    }

module _ {words : Bool} {text needle : List ℕ} {c : Cursor} {n k : ℕ} (block : Ending words text needle c n k) where
  abbrev p : ℕ
  p = c.position

  some : 0 < length needle
  some = block.some

  room : p + length needle ≤ length text
  room = block.room

  -- it found the needle
  pub short_found : k ≡ 0 → Led words text needle c (found_by c (c.compares + 1))
  short_found none =
      let later = sym (more_none (later_at words text needle p (count words))) ∙ later_end words text needle p 0 (count words) (omega (arith, block.room, block.end, block.less)) in
      led_here words text needle c 1 (step_fits words text needle p some room (sym block.is ∙ none) ∙ ap (after_later p) later) (omega (arith, room))

  -- or not
  pub short_missed : (k ≡ 0 → ⊥) → Led words text needle c (missed_by c (min k n) (c.compares + 1))
  short_missed other =
      let b = count words in
      let more : 0 < k = omega arith in
      by_order k b
      (λ below. let inside = first_within words text needle p some room k (sym block.is) below in
      let by : min k n ≡ k = omega (arith, block.end) in
      rw by (led_onward words text needle c (p + k) 1 k (step_index words text needle p some room k (sym block.is) more below) refl more (omega (arith, room))))
      (λ above. let none : k ≡ b = omega (arith, block.is, first_most words text needle p some room) in
      let by : min k n ≡ n = omega (arith, block.less) in
      rw by (led_onward words text needle c (length text) 1 n (step_none words text needle p some room (length text) (sym block.is ∙ none) (omega (arith, block.end, block.less, room))) (omega (arith, block.end, room)) (omega (arith, block.end, room, some)) (omega arith)))

-- ---- the walk

module _ (words : Bool) (text needle : List ℕ) (c : Cursor) where
  -- with no room for the needle the walk is at its end
  pub total_past : length text < c.position + length needle → total words text needle c ≡ nowhere c.compares
  total_past h =
      ap (plus c.compares) (walk_past words text needle c.position (step_past words text needle c.position h)) ∙ ap nowhere (add-zero c.compares)

  -- an accepted call over a text that is cut at the stop answers how its walk ends
  pub next_ended : refusal (length text) (length needle) c ≡ Ok tt → c.stop ≡ length text → ended c (total words text needle c) ≡ next_match words text needle c
  next_ended z cut =
      let all : front text c ≡ text = rw (cut, take-length text) in
      sym (next_accepted words text needle c z ∙ ap (λ (l : List ℕ). accepted c (walk words l needle c.position)) all ∙ accepted_ended (walk words text needle c.position))
    where
      accepted_ended : (e : Ended) → accepted c e ≡ ended c (plus c.compares e)
      accepted_ended (match_at p k) = refl
      accepted_ended (nowhere k) = refl

-- One turn: from the cursor `at`, which the walk from s has led to, to r.
module _ (words : Bool) (text needle : List ℕ) (s at : Cursor) (r : Stepped) (led : Led words text needle at r) (same : total words text needle at ≡ total words text needle s) where
  -- it finds the needle
  pub turn_found : (d : Cursor) → r ≡ Found d → ended s (match_at d.position d.compares) ≡ ended s (total words text needle s)
  turn_found d t = ap (ended s) (ap (from words text needle) (sym t) ∙ led.same ∙ same)

counted : (k : ℕ) (e : Ended) → walk_compares (plus k e) ≡ k + walk_compares e
counted k (match_at p n) = refl
counted k (nowhere n) = refl

-- the compares so far are few
pub total_few : (words : Bool) (text needle : List ℕ) (s c : Cursor) → total words text needle c ≡ total words text needle s
    → length text ≤ longest_text → length needle ≤ longest_needle → s.compares ≤ most_compares → c.compares ≤ many_compares
total_few words text needle s c e h g f =
    let few = walk_few words text needle s.position h g in
    let same : c.compares + walk_compares (walk words text needle c.position) ≡ s.compares + walk_compares (walk words text needle s.position) =
    sym (counted c.compares (walk words text needle c.position)) ∙ ap walk_compares e ∙ counted s.compares (walk words text needle s.position) in
    omega arith
