-- Next matches and fills in any mixture give what next matches alone would have given. A fill of k
-- places goes as k next matches up to the first that finds nothing; from its cursor on every next
-- match is refused and changes nothing, so that those left over give nothing. By induction on the
-- places of a fill, then on the calls. Assumes nothing.
use Prim.Native.Nat.{ℕ, zero, suc, ◌+◌}
use mathlib.Core.Path.{◌≡◌, refl, sym, ap, ◌∙◌}
use mathlib.Core.Bool.{Bool}
use mathlib.Core.List.{List, [], ◌∷◌, ◌++◌, map}
use lib.ListN.{length, take, replicate}
use lib.Seq.{take-length}
use native.Mathlib.Omega.{arith}
use native.Mathlib.Nat.{suc-add, zero-add}
use native.Mathlib.Numerals.{one-add}
use Rattle.std.specs.Prelude.{Result, Ok, Err}
use Rattle.refusals.specs.declared.Refusal.{Refusal}
use Rattle.refusals.specs.declared.Refusal.TheVariants.{Exhausted}
use Rattle.search.specs.declared.Cursor.{Cursor}
use Rattle.search.specs.declared.Next.{Next}
use Rattle.search.specs.declared.Next.TheVariants.{Match, Absent, Refused}
use Rattle.search.specs.Positions.{positions}
use Rattle.search.specs.Walk.{Ended, match_at, nowhere, walk}
use Rattle.search.specs.Cursors.{fresh_cursor, front, refusal, accepted, answered, next_match}
use Rattle.search.specs.Calls.{Said, found, absent, refused, said, cursor_of, said_by, cursor_after}
use Rattle.search.specs.Fills.{after_next, empty_list, fill, fill_from}
use Rattle.search.specs.Mixed.{Call, a_next, a_fill, asked, asked_by, found_in, given_by, cursor_by, MixedAsNext, MixedFinds, MixedFindWhole}
use Rattle.search.proofs.Refusals.{accepted_is, exhausted_refused}
use Rattle.search.proofs.Lists.{calls_find_all, next_refused}

module _ (words : Bool) (text needle : List ℕ) where
  abbrev N : Cursor → Next
  N = next_match words text needle

  -- ---- a cursor that every next match refuses

  -- n next matches from a refused cursor find nothing and leave it
  refused_on : (n : ℕ) (r : Refusal) (c : Cursor) → N c ≡ Refused r c → (found_in (said_by words text needle n c) ≡ []) × (cursor_after words text needle n c ≡ c)
  refused_on zero r c e = (refl, refl)
  refused_on (suc n) r c e =
      let s = refused_on n r c e in
      (rw e s.0, ap (λ (x : Next). cursor_after words text needle n (cursor_of x)) e ∙ s.1)

  -- from the cursor c on n next matches find nothing and leave it
  pub record Settled (c : Cursor) : Type 0 where
    pub by : Refusal
    pub refuses : N c ≡ Refused by c

  -- an answer that is no match leaves such a cursor
  abbrev Leaves : Next → Type 0
  Leaves (Match p c) = Unit {0}
  Leaves (Absent c) = Settled c
  Leaves (Refused r c) = Settled c

  next_leaves : (c : Cursor) → Leaves (N c)
  unfolding next_match
  next_leaves c = by_refusal (refusal (length text) (length needle) c) refl
    where
      by_end : refusal (length text) (length needle) c ≡ Ok tt → (e : Ended) → Leaves (accepted c e)
      by_end z (match_at p k) = tt
      by_end z (nowhere k) =
          let known = accepted_is (length text) (length needle) c z in
          let after = cursor_of (accepted c (nowhere k)) in
          record { by = Exhausted; refuses = next_refused words text needle after Exhausted (exhausted_refused (length text) (length needle) after known.text known.needle refl) }

      by_refusal : (r : Result (Unit {0}) Refusal) → refusal (length text) (length needle) c ≡ r → Leaves (answered r c (walk words (front text c) needle))
      by_refusal (Ok u) z = by_end z (walk words (front text c) needle c.position)
      by_refusal (Err r) z = record { by = r; refuses = next_refused words text needle c r z }

  -- ---- a fill, and n next matches after it

  -- what is found and where it leads, joined with n next matches after it, is as those of m from c
  pub record Joined (ps : List ℕ) (after : Cursor) (n m : ℕ) (c : Cursor) : Type 0 where
    pub gives : ps ++ found_in (said_by words text needle n after) ≡ found_in (said_by words text needle m c)
    pub leaves : cursor_after words text needle n after ≡ cursor_after words text needle m c

  -- from a settled cursor on, any two numbers of next matches are alike
  settled_joined : (n m : ℕ) (c : Cursor) → Settled c → Joined [] c n m c
  settled_joined n m c s =
      let a = refused_on n s.by c s.refuses in
      let b = refused_on m s.by c s.refuses in
      record { gives = a.0 ∙ sym b.0; leaves = a.1 ∙ sym b.1 }

  from_joined : (k n : ℕ) (c : Cursor) → Joined (fill_from N k c).positions (fill_from N k c).cursor n (k + n) c
  from_joined zero n c = rw (zero-add n) (record { gives = refl; leaves = refl })
  from_joined (suc k) n c =
      let s = by_answer (N c) (next_leaves c) (λ d. from_joined k n d) in
      rw (suc-add k n) (record { gives = s.0; leaves = s.1 })
    where
      by_answer : (x : Next) → Leaves x → ((d : Cursor) → Joined (fill_from N k d).positions (fill_from N k d).cursor n (k + n) d)
          → ((after_next (fill_from N k) x).positions ++ found_in (said_by words text needle n (after_next (fill_from N k) x).cursor)
          ≡ found_in (said x ∷ said_by words text needle (k + n) (cursor_of x)))
          × (cursor_after words text needle n (after_next (fill_from N k) x).cursor ≡ cursor_after words text needle (k + n) (cursor_of x))
      by_answer (Match p d) h rest = (ap (λ (l : List ℕ). p ∷ l) (rest d).gives, (rest d).leaves)
      by_answer (Absent d) h rest = let s = settled_joined n (k + n) d h in (s.gives, s.leaves)
      by_answer (Refused r d) h rest = let s = settled_joined n (k + n) d h in (s.gives, s.leaves)

  -- an empty list finds nothing and leaves the cursor, refused or not
  empty_leaves : (r : Result (Unit {0}) Refusal) (c : Cursor) → ((empty_list c r).positions ≡ []) × ((empty_list c r).cursor ≡ c)
  empty_leaves (Ok u) c = (refl, refl)
  empty_leaves (Err r) c = (refl, refl)

  fill_joined : (k n : ℕ) (c : Cursor) → Joined (fill words text needle k c).positions (fill words text needle k c).cursor n (k + n) c
  unfolding fill
  fill_joined zero n c =
      let e = empty_leaves (refusal (length text) (length needle) c) c in
      rw (e.0, e.1, zero-add n) (record { gives = refl; leaves = refl })
  fill_joined (suc k) n c = from_joined (suc k) n c

  -- ---- a list of calls

  call_joined : (x : Call) (n : ℕ) (c : Cursor) → Joined (given_by words text needle x c) (cursor_by words text needle x c) n (asked x + n) c
  call_joined a_next n c = rw (one-add n) (record { gives = one_said (said (N c)); leaves = refl })
    where
      one_said : (s : Said) → found_in (s ∷ []) ++ found_in (said_by words text needle n (cursor_of (N c))) ≡ found_in (s ∷ said_by words text needle n (cursor_of (N c)))
      one_said (found p) = refl
      one_said absent = refl
      one_said (refused r) = refl
  call_joined (a_fill k) n c = fill_joined k n c

pub mixed_as_next : MixedAsNext
mixed_as_next words text needle [] c = record { gives = refl; leaves = refl }
mixed_as_next words text needle (x ∷ xs) c =
    let d = cursor_by words text needle x c in
    let rest = mixed_as_next words text needle xs d in
    let first = call_joined words text needle x (asked_by xs) c in record {
      gives = ap (λ (l : List ℕ). given_by words text needle x c ++ l) rest.gives ∙ first.gives;
      leaves = rest.leaves ∙ first.leaves;
    }

-- ---- from the fresh cursor on

-- the positions among the first k answers
found_first_lem : (k : ℕ) (ps : List ℕ) (ss : List Said) → found_in ss ≡ [] → found_in (take k (map found ps ++ ss)) ≡ take k ps
found_first_lem zero ps ss e = refl
found_first_lem (suc k) (p ∷ ps) ss e = ap (λ (l : List ℕ). p ∷ l) (found_first_lem k ps ss e)
found_first_lem (suc k) [] ss e = none_taken (suc k) ss e
  where
    none_taken : (n : ℕ) (ts : List Said) → found_in ts ≡ [] → found_in (take n ts) ≡ []
    none_taken zero ts h = refl
    none_taken (suc n) [] h = refl
    none_taken (suc n) (found p ∷ ts) h = let z : suc (length (found_in ts)) ≡ 0 = ap length h in absurd (omega arith)
    none_taken (suc n) (absent ∷ ts) h = none_taken n ts h
    none_taken (suc n) (refused r ∷ ts) h = none_taken n ts h

none_found : (k : ℕ) → found_in (absent ∷ replicate k (refused 21)) ≡ []
none_found zero = refl
none_found (suc k) = none_found k

pub mixed_finds : MixedFinds
mixed_finds words text needle stop calls small short reach =
    let k = asked_by calls in
    let all = calls_find_all words text needle stop k small short reach in
    let same = mixed_as_next words text needle calls (fresh_cursor stop) in record {
      gives = same.gives ∙ ap found_in all.says ∙ found_first_lem k (positions (take stop text) needle) (absent ∷ replicate k (refused 21)) (none_found k);
      counts = ap (λ (c : Cursor). c.compares) same.leaves ∙ all.counts;
      bounded = all.bounded;
    }

pub mixed_find_whole : MixedFindWhole
mixed_find_whole words text needle calls small short = rw take-length at (mixed_finds words text needle (length text) calls small short (omega arith))
