-- What an accepted call writes is the slowest search of its sizes: it takes the compares that Costs
-- counts, and no list of calls takes more, by demand 3's bound. Assumes nothing.
use Prim.Native.Nat.{ℕ, zero, suc, ◌+◌, ◌-◌, ◌*◌, ◌≤◌, ◌<◌, zero-le}
use mathlib.Core.Path.{◌≡◌, refl, sym, ap, ◌∙◌}
use mathlib.Core.Bool.{Bool}
use mathlib.Core.List.{List, [], ◌∷◌}
use lib.Dec.{ltb}
use lib.ListN.{length}
use native.Mathlib.Omega.{arith}
use native.Mathlib.Nat.{mul-le-mul_right, add-zero}
use borrow.Author.Tests.{ltb-false, le-ltb, lt-ltb}
use Rattle.bits.proofs.Below.{by_test, by_order}
use Rattle.blocks.specs.Blocks.{longest_text}
use Rattle.unit.specs.Operand.{in_bytes}
use Rattle.std.specs.Prelude.{Err}
use Rattle.refusals.specs.declared.Refusal.{Refusal}
use Rattle.refusals.specs.declared.Refusal.TheVariants.{Stop}
use Rattle.search.specs.declared.Cursor.{Cursor}
use Rattle.search.specs.Positions.{positions}
use Rattle.search.specs.Walk.{Ended, match_at, after, count_from, walk, walk_count, bound}
use Rattle.search.specs.Cursors.{fresh_cursor, longest_needle, refusal}
use Rattle.search.specs.Calls.{cursor_after}
use Rattle.search.specs.Mixed.{Call, asked_by, cursor_after_all}
use Rattle.unit.proofs.Unit.{count_some}
use Rattle.search.proofs.Pieces.{pieces}
use Rattle.search.proofs.Steps.{positions_end}
use Rattle.search.proofs.Walks.{WalkOk, walk_ok}
use Rattle.search.proofs.Lists.{refused_unchanged, fresh_positions, calls_find_whole}
use Rattle.search.proofs.Mixtures.{mixed_as_next, mixed_finds}
use Rattle.worst_case.specs.Cases.{worst}
use Rattle.worst_case.specs.Most.{most, Slowest, WorstSlowest, WrittenSlowest, S5Follows}
use Rattle.worst_case.proofs.Letters.{EndsInB, worst_ends}
use Rattle.worst_case.proofs.Answers.{Sizes, accepted_is}
use Rattle.worst_case.proofs.Costs.{walk_cost, walk_ends}

-- ---- as many as that

module _ (words : Bool) (n m : ℕ) (text needle : List ℕ) (t : EndsInB n text) (s : EndsInB m needle) (z : Sizes words n m) where
  first_walk : walk words text needle 0 ≡ match_at (n - m) (most words n m)
  unfolding pieces
  first_walk =
      walk_cost words n m text needle t s z.block (n - m) 0 (omega (arith, z.within))
      ∙ (let there : 0 + (n - m) ≡ n - m = omega arith in
      let places : suc (n - m) ≡ n - m + 1 = omega arith in
      λ i. match_at (there i) (places i * pieces words m))

  two_walks : walk_count words text needle 2 ≡ most words n m
  unfolding walk_count count_from
  two_walks =
      ap (after (count_from words text needle 1)) first_walk
      ∙ ap (λ (e : Ended). most words n m + after (count_from words text needle 0) e) (walk_ends words n m text needle t s z.block (suc (n - m)) (omega (arith, z.within)))
      ∙ add-zero (most words n m)

  one_position : positions text needle ≡ (n - m) ∷ []
  one_position =
      let ok : WalkOk words text needle 0 (match_at (n - m) (most words n m)) = rw first_walk at (walk_ok words text needle 0) in
      sym (fresh_positions text needle) ∙ ok.1
      ∙ ap (λ (ps : List ℕ). (n - m) ∷ ps) (positions_end text needle (suc (n - m)) (omega (arith, t.size, s.size, z.within)))

-- ---- and no more

-- a stop past the text's end is refused
stop_past : (n m stop : ℕ) → n ≤ longest_text → m ≤ longest_needle → n < stop → refusal n m (fresh_cursor stop) ≡ Err Stop
unfolding refusal
stop_past n m stop h g past = rw (le-ltb longest_text n h, le-ltb longest_needle m g, lt-ltb n stop past)

-- calls that are all refused leave the cursor
unchanged : (words : Bool) (text needle : List ℕ) (k : ℕ) (c : Cursor) (r : Refusal) → refusal (length text) (length needle) c ≡ Err r → cursor_after words text needle k c ≡ c
unchanged words text needle zero c r h = refl
unchanged words text needle (suc k) c r h =
    ap (cursor_after words text needle k) (refused_unchanged words text needle c r h) ∙ unchanged words text needle k c r h

-- a stop before the text's end bounds no more
bound_less : (words : Bool) (stop n m : ℕ) → stop ≤ n → m ≤ n → bound words stop m ≤ most words n m
bound_less words stop n m h g =
    by_test (ltb stop m)
    (λ e. rw e zero-le)
    (λ e. let room = ltb-false stop m e in
    let less : stop - m + 1 ≤ n - m + 1 = omega arith in
    rw e (mul-le-mul_right _ less))

module _ (words : Bool) (n m : ℕ) (z : Sizes words n m) (text needle : List ℕ) (t : length text ≡ n) (s : length needle ≡ m) where
  within_most : (stop : ℕ) (calls : List Call) → (cursor_after_all words text needle calls (fresh_cursor stop)).compares ≤ most words n m
  within_most stop calls =
      let small : length text ≤ longest_text = omega (arith, t, z.text) in
      let short : length needle ≤ longest_needle = omega (arith, s, z.needle) in
      by_order n stop
      (λ past. let no = stop_past (length text) (length needle) stop small short (omega (arith, t)) in
      let same = (mixed_as_next words text needle calls (fresh_cursor stop)).leaves ∙ unchanged words text needle (asked_by calls) (fresh_cursor stop) Stop no in
      rw same zero-le)
      (λ reach. let all = mixed_finds words text needle stop calls small short (omega (arith, t)) in
      omega (arith, all.counts, all.bounded, bound_less words stop n m reach z.within, ap (bound words stop) s))

-- ---- the slowest of all

slowest : (words : Bool) (n m : ℕ) → Sizes words n m → Slowest words n m (worst n) (worst m)
slowest words n m z =
    let b = count_some words in
    let t = worst_ends n (omega (arith, z.block, z.within)) in
    let s = worst_ends m (omega (arith, z.block)) in
    let all = calls_find_whole words (worst n) (worst m) 2 (omega (arith, t.size, z.text)) (omega (arith, s.size, z.needle)) in
    let exactly = rw t.size at all.counts ∙ two_walks words n m (worst n) (worst m) t s z in record {
      text_size = t.size;
      needle_size = s.size;
      says = rw (t.size, one_position words n m (worst n) (worst m) t s z) at all.says;
      exactly = exactly;
      no_more = λ text' needle' stop calls e g. rw exactly (within_most words n m z text' needle' e g stop calls);
    }

pub worst_slowest : WorstSlowest
worst_slowest words n m b h g f = slowest words n m (record { block = b; within = h; text = g; needle = f })

pub written_slowest : WrittenSlowest
written_slowest words n m before before' text needle w =
    let a = accepted_is words n m (length before) (length before') (sym w.answer) in
    rw (w.text_after, w.needle_after) (slowest words n m a.0)

pub S5_follows : S5Follows
unfolding worst
S5_follows = let s = worst_slowest in_bytes 18 17 (omega arith) (omega arith) (omega arith) (omega arith) in (s, s.exactly)
