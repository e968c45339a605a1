-- What one turn of the walk over several matches comes to, on plain values and over the width. The
-- positions found so far stand in front of the list, and what the fill comes to is those, then the
-- fill of the places left from the cursor of the present match on. Assumes nothing.
use Prim.Native.Nat.{ℕ, zero, suc, ◌+◌, ◌-◌, ◌≤◌, ◌<◌}
use mathlib.Core.Path.{◌≡◌, refl, sym, ap, subst, ◌∙◌}
use mathlib.Core.Bool.{Bool, true, false, cond}
use mathlib.Core.List.{List, [], ◌∷◌, ◌++◌, append-nil, append_assoc}
use lib.Dec.{ltb}
use lib.ListN.{length, get_or, drop, set, length-append, length-drop, length-set, length-take}
use lib.Seq.{drop-cons, set_at}
use native.Mathlib.Omega.{arith}
use native.Mathlib.Nat.{sub-zero}
use native.Mathlib.Numerals.{add-one}
use Rattle.std.specs.Prelude.{Result, Ok, Err}
use Rattle.refusals.specs.declared.Refusal.{Refusal}
use Rattle.refusals.specs.declared.Refusal.TheVariants.{Compares}
use Rattle.search.specs.declared.Cursor.{Cursor}
use Rattle.search.specs.declared.Next.{Next}
use Rattle.search.specs.declared.Next.TheVariants.{Match, Absent, Refused}
use Rattle.search.specs.declared.End.{End}
use Rattle.search.specs.declared.End.TheVariants.{Full, Stopped}
use Rattle.search.specs.declared.Filled.{Filled}
use Rattle.search.specs.declared.Stepped.{Stepped}
use Rattle.search.specs.declared.Stepped.TheVariants.{Found}
use Rattle.search.specs.declared.Walked.{Walked}
use Rattle.search.specs.Walk.{Ended, match_at, nowhere, walk}
use Rattle.search.specs.Cursors.{accepted, answered, front, moved, most_compares, refusal, next_match}
use Rattle.search.specs.Calls.{cursor_of}
use Rattle.search.specs.Fills.{after_next, answer_of, empty_list, Fill, fill, FillAnswered, fill_from, fill_of, written}
use Rattle.search.specs.Moves.{Led, Walks, ended, end_of, filled_by, total}
use Rattle.search.proofs.Walks.{WalkOk, walk_ok}
use Rattle.search.proofs.Lists.{next_refused}
use Rattle.search.proofs.Refusals.{accepted_is, compares_alone}
use Rattle.search.proofs.Turns.{next_ended, total_past, turn_found}

-- positions in front of a fill
abbrev pub in_front : List ℕ → Fill → Fill
in_front ps f = fill_of (ps ++ f.positions) f.cursor f.end

-- The walk from the cursor c has found k positions and written them to the list. The present match
-- began with the cursor `from`, which is accepted, and has got to `at`.
pub record Going (words : Bool) (text needle list : List ℕ) (c from at : Cursor) (k : ℕ) (list' : List ℕ) : Type 0 where
  pub found : List ℕ
  pub size : length found ≡ k
  pub below : k < length list
  pub list_is : list' ≡ written found list
  pub rest : in_front found (fill_from (next_match words text needle) (length list - k) from) ≡ fill_from (next_match words text needle) (length list) c
  pub accepted : refusal (length text) (length needle) from ≡ Ok tt
  pub cut : from.stop ≡ length text
  pub near : at.position ≤ length text + 1
  pub same : total words text needle at ≡ total words text needle from
  pub one : length list ≡ 1 → from ≡ c

-- ---- lists

length_behind : (ps : List ℕ) (p : ℕ) → length (ps ++ p ∷ []) ≡ length ps + 1
length_behind ps p = length-append ps (p ∷ [])

-- the next position goes in behind those that were found
put_behind : (ps list : List ℕ) (p k : ℕ) → length ps ≡ k → k < length list → set (written ps list) k p ≡ written (ps ++ p ∷ []) list
put_behind ps list p k e h =
    rw (length_behind ps p, e, drop-cons list k 0 h, set_at ps (get_or list k 0) (drop (suc k) list) p k e, append_assoc, add-one)

-- ---- the walk ends

module _ (words : Bool) (text needle list : List ℕ) (c : Cursor) where
  abbrev N : Cursor → Next
  N = next_match words text needle

  -- with these positions found, and then nothing more
  ends : (ps : List ℕ) (k : ℕ) (list' : List ℕ) (last : Next) → length ps ≡ k → list' ≡ written ps list
      → in_front ps (fill_of [] (cursor_of last) (end_of last)) ≡ fill_from N (length list) c → (length list ≡ 1 → last ≡ N c)
      → Walks N c list (record { count = k; last = last }) list'
  ends ps k list' last size is e one =
      let all = sym e ∙ ap (λ (l : List ℕ). fill_of l (cursor_of last) (end_of last)) (append-nil ps) in record {
        answer = rw all (λ t. record { count = sym size t; cursor = cursor_of last; end = end_of last });
        list_after = is ∙ ap (λ (f : Fill). written f.positions list) (sym all);
        one = one;
      }

  -- it begins
  pub going_start : refusal (length text) (length needle) c ≡ Ok tt → c.stop ≡ length text → 0 < length list → Going words text needle list c c c 0 list
  going_start a cut h = record {
    found = [];
    size = refl;
    below = h;
    list_is = refl;
    rest = rw (sub-zero (length list));
    accepted = a;
    cut = cut;
    near = omega (arith, (accepted_is (length text) (length needle) c a).position);
    same = refl;
    one = λ _. refl;
  }

-- ---- a turn

-- from `from` and `at` on, with k positions found
module _ {words : Bool} {text needle list : List ℕ} {c from at : Cursor} {k : ℕ} {list' : List ℕ} (g : Going words text needle list c from at k list') where
  abbrev next : Cursor → Next
  next = next_match words text needle

  -- the list keeps its length
  pub going_length : length list' ≡ length list
  going_length =
      ap length g.list_is ∙ length-append g.found (drop (length g.found) list) ∙ (rw (length-drop, g.size) (omega (arith, g.below)))

  pub put_length : (p : ℕ) → length (set list' k p) ≡ length list
  put_length p = length-set list' k p ∙ going_length

  -- the fill of the places left is one place and the others
  places : length list - k ≡ suc (length list - (k + 1))
  places = omega (arith, g.below)

  -- no room is left for the needle
  pub going_past : length text < at.position + length needle → (last : Next) → last ≡ ended from (nowhere at.compares)
      → Walks next c list (record { count = k; last = last }) list'
  going_past past last e =
      let is = ap (ended from) (sym (total_past words text needle at past) ∙ g.same) ∙ next_ended words text needle from g.accepted g.cut in
      let rest = rw (places, ← is) at g.rest in
      rw e (ends words text needle list c g.found k list' (ended from (nowhere at.compares)) g.size g.list_is rest (λ h. is ∙ ap next (g.one h)))

  -- a step finds the needle at the cursor e; the one to go on from is d
  module _ (r : Stepped) (led : Led words text needle at r) (e : Cursor) (t : r ≡ Found e) where
    abbrev p : ℕ
    p = e.position

    abbrev d : Cursor
    d = moved from (p + 1) e.compares false

    match_is : Match p d ≡ next from
    match_is = turn_found words text needle from at r led g.same e t ∙ next_ended words text needle from g.accepted g.cut

    match_rest : in_front (g.found ++ p ∷ []) (fill_from next (length list - (k + 1)) d) ≡ fill_from next (length list) c
    match_rest = rw append_assoc (rw (places, ← match_is) at g.rest)

    match_size : length (g.found ++ p ∷ []) ≡ k + 1
    match_size = length_behind g.found p ∙ ap (λ (n : ℕ). n + 1) g.size

    match_list : set list' k p ≡ written (g.found ++ p ∷ []) list
    match_list = ap (λ (l : List ℕ). set l k p) g.list_is ∙ put_behind g.found list p k g.size g.below

    -- the list is full
    pub match_full : k + 1 ≡ length list → (last : Next) → last ≡ ended from (match_at p e.compares)
        → Walks next c list (record { count = k + 1; last = last }) (set list' k p)
    match_full full last is =
        let none : length list - (k + 1) ≡ 0 = omega arith in
        rw is (ends words text needle list c (g.found ++ p ∷ []) (k + 1) (set list' k p) (Match p d) match_size match_list (rw none at match_rest) (λ h. match_is ∙ ap next (g.one h)))

    -- there is a place left, and a is the cursor of the next match
    module _ (more : k + 1 < length list) (a : Cursor) (is : a ≡ d) where
      more_rest : in_front (g.found ++ p ∷ []) (fill_from next (length list - (k + 1)) a) ≡ fill_from next (length list) c
      more_rest = rw is match_rest

      -- it is accepted
      pub match_on : refusal (length text) (length needle) a ≡ Ok tt → Going words text needle list c a a (k + 1) (set list' k p)
      match_on z = record {
        found = g.found ++ p ∷ [];
        size = match_size;
        below = more;
        list_is = match_list;
        rest = more_rest;
        accepted = z;
        cut = ap (λ (x : Cursor). x.stop) is ∙ g.cut;
        near = omega (arith, (accepted_is (length text) (length needle) a z).position, ap (λ (x : Cursor). x.stop) is ∙ g.cut);
        same = refl;
        one = λ h. absurd (omega arith);
      }

      -- it is refused
      pub match_stopped : (by : Refusal) → refusal (length text) (length needle) a ≡ Err by
          → Walks next c list (record { count = k + 1; last = Refused by a }) (set list' k p)
      match_stopped by is_not =
          let left : length list - (k + 1) ≡ suc (length list - (k + 2)) = omega arith in
          ends words text needle list c (g.found ++ p ∷ []) (k + 1) (set list' k p) (Refused by a) match_size match_list
          (rw (left, next_refused words text needle a by is_not) at more_rest)
          (λ w. absurd (omega arith))

-- ---- the call

module _ (words : Bool) (text needle : List ℕ) (c : Cursor) where
  -- nothing is written where the fill has no position
  pub unwritten : (k : ℕ) (e : End) (list : List ℕ) (r : Filled) → fill words text needle k c ≡ fill_of [] c e → r ≡ answer_of (fill_of [] c e) → FillAnswered (fill words text needle k c) list r list
  unwritten k e list r is h = rw (is, h) (record { answer = refl; list_after = refl })

  -- a refused call
  pub fill_refused : (k : ℕ) (r : Refusal) → refusal (length text) (length needle) c ≡ Err r → fill words text needle k c ≡ fill_of [] c (Stopped r)
  unfolding fill
  fill_refused zero r e = rw e
  fill_refused (suc k) r e = rw (next_refused words text needle c r e)

  -- an empty list and a good cursor
  pub fill_empty : (k : ℕ) → k ≡ 0 → refusal (length text) (length needle) c ≡ Ok tt → fill words text needle k c ≡ fill_of [] c Full
  unfolding fill
  fill_empty zero z e = rw e
  fill_empty (suc k) z e = absurd (omega arith)

  -- a list with places is walked for
  pub walked : (list : List ℕ) (w : Walked) (list' : List ℕ) (r : Filled) → 0 < length list → Walks (next_match words text needle) c list w list' → r ≡ filled_by w.count w.last
      → FillAnswered (fill words text needle (length list) c) list r list'
  unfolding fill
  walked list w list' r h walks e =
      let is = fill_is (length list) h in record {
        answer = e ∙ walks.answer ∙ ap answer_of is;
        list_after = walks.list_after ∙ ap (λ (f : Fill). written f.positions list) is;
      }
    where
      fill_is : (k : ℕ) → 0 < k → fill_from (next_match words text needle) k c ≡ fill words text needle k c
      fill_is zero g = absurd (omega arith)
      fill_is (suc k) g = refl

-- ---- what stops a fill

module _ (words : Bool) (text needle : List ℕ) where
  abbrev next_of : Cursor → Next
  next_of = next_match words text needle

  -- nothing but number 23 refuses this cursor
  abbrev Only23 : Cursor → Type 0
  Only23 c = (r : Refusal) → refusal (length text) (length needle) c ≡ Err r → r ≡ Compares

  -- a match leaves such a cursor, and where it is asked for, no other number is given
  abbrev Says23 : Bool → Next → Type 0
  Says23 b (Match p d) = Only23 d
  Says23 b (Absent d) = Unit {0}
  Says23 true (Refused r d) = r ≡ Compares
  Says23 false (Refused r d) = Unit {0}

  ended_23 : (b : Bool) (c : Cursor) → refusal (length text) (length needle) c ≡ Ok tt → (e : Ended) → WalkOk words (front text c) needle c.position e → Says23 b (accepted c e)
  ended_23 b c z (nowhere k) ok = tt
  ended_23 b c z (match_at q k) ok = λ r e.
      let known = accepted_is (length text) (length needle) c z in
      let d = moved c (q + 1) (c.compares + k) false in
      let alone = compares_alone (length text) (length needle) d known.text known.needle refl known.stop (omega (arith, ok.0, length-take c.stop text)) in
      chosen (ltb most_compares d.compares) r (sym alone ∙ e)
    where
      chosen : (t : Bool) (r : Refusal) → cond t (Err Compares) (Ok (tt {0})) ≡ Err r → r ≡ Compares
      chosen true r f = cc
      chosen false r f = cc

  says_23 : (b : Bool) (c : Cursor) → (b ≡ true → Only23 c) → Says23 b (next_of c)
  unfolding next_match
  says_23 b c only = by_refusal b only (refusal (length text) (length needle) c) refl
    where
      by_refusal : (t : Bool) → (t ≡ true → Only23 c) → (r : Result (Unit {0}) Refusal) → refusal (length text) (length needle) c ≡ r → Says23 t (answered r c (walk words (front text c) needle))
      by_refusal t o (Ok u) z = ended_23 t c z (walk words (front text c) needle c.position) (walk_ok words (front text c) needle c.position)
      by_refusal true o (Err r) z = o refl r z
      by_refusal false o (Err r) z = tt

  -- from such a cursor on, only 23 stops
  later_23 : (k : ℕ) (c : Cursor) (by : Refusal) → Only23 c → (fill_from next_of k c).end ≡ Stopped by → by ≡ Compares
  later_23 zero c by only e = cc
  later_23 (suc k) c by only e = by_answer (next_of c) (says_23 true c (λ _. only)) (λ d o f. later_23 k d by o f) e
    where
      by_answer : (x : Next) → Says23 true x → ((d : Cursor) → Only23 d → (fill_from next_of k d).end ≡ Stopped by → by ≡ Compares)
          → (after_next (fill_from next_of k) x).end ≡ Stopped by → by ≡ Compares
      by_answer (Match p d) o rest f = rest d o f
      by_answer (Absent d) o rest f = cc
      by_answer (Refused r d) o rest f = cc

  -- What stops a fill after some positions is number 23.
  pub stopped_by_23 : (k : ℕ) (c : Cursor) (by : Refusal) → (fill words text needle k c).end ≡ Stopped by → 0 < length (fill words text needle k c).positions → by ≡ Compares
  unfolding fill
  stopped_by_23 zero c by e h = empty (refusal (length text) (length needle) c) h
    where
      empty : (r : Result (Unit {0}) Refusal) → 0 < length (empty_list c r).positions → by ≡ Compares
      empty (Ok u) g = absurd (omega arith)
      empty (Err r) g = absurd (omega arith)
  stopped_by_23 (suc k) c by e h = by_answer (next_of c) (says_23 false c (λ f. cc)) e h
    where
      by_answer : (x : Next) → Says23 false x → (after_next (fill_from next_of k) x).end ≡ Stopped by
          → 0 < length (after_next (fill_from next_of k) x).positions → by ≡ Compares
      by_answer (Match p d) o f g = later_23 k d by o f
      by_answer (Absent d) o f g = absurd (omega arith)
      by_answer (Refused r d) o f g = absurd (omega arith)

-- The walk from a cursor that is the one that came in is the walk from that one.
pub same_walk : {next : Cursor → Next} {from c : Cursor} {list list' : List ℕ} {w : Walked} → from ≡ c → Walks next from list w list' → Walks next c list w list'
same_walk {next} {list = list} {list' = list'} {w = w} e = subst (λ (x : Cursor). Walks next x list w list') e
