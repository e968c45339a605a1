-- A needle that ends within the stop stands in the text's front where it stands in the text. The
-- stop is kept by every call, and nothing past it changes an answer: a call looks at its text's
-- length only up to the test of the stop, and then at the text's front. So the code may cut the
-- text at the stop and search what is left. By the answers of a call, then by induction on the
-- places of a fill and on the calls. Assumes nothing.
use Prim.Native.Nat.{ℕ, zero, suc, ◌+◌, ◌≤◌, ◌<◌, min}
use mathlib.Core.Path.{◌≡◌, refl, sym, ap, ◌∙◌}
use mathlib.Core.Bool.{Bool, ◌&&◌}
use mathlib.Core.List.{List, [], ◌∷◌}
use lib.Dec.{eqb, leb}
use lib.ListN.{length, drop, take}
use lib.Seq.{length-take-le, take-length, take-take}
use native.Mathlib.Omega.{arith}
use native.Mathlib.Nat.{not-suc-le-zero, le_of_suc-le-suc}
use borrow.Author.Tests.{leb-true, le-leb}
use Rattle.bits.proofs.Below.{by_test}
use Rattle.unit.specs.Elements.{Reading}
use Rattle.unit.specs.Operand.{count}
use Rattle.std.specs.Prelude.{Result, Ok, Err}
use Rattle.refusals.specs.declared.Refusal.{Refusal}
use Rattle.search.specs.declared.Cursor.{Cursor}
use Rattle.search.specs.declared.Next.{Next}
use Rattle.search.specs.declared.Next.TheVariants.{Match, Absent, Refused}
use Rattle.search.specs.declared.Walked.{Walked}
use Rattle.search.specs.Positions.{starts_with}
use Rattle.search.specs.Walk.{Ended, match_at, nowhere, walk}
use Rattle.search.specs.Cursors.{accepted, answered, front, refusal, next_match}
use Rattle.search.specs.Calls.{Said, said, cursor_of, said_by}
use Rattle.search.specs.Fills.{after_next, answer_of, empty_list, Fill, fill, fill_from, written}
use Rattle.search.specs.Mixed.{Call, a_next, a_fill, found_in, given_by, cursor_by, all_given, cursor_after_all}
use Rattle.search.specs.Moves.{Walkable, Walks}
use Rattle.search.specs.Stops.{AlikeBelow, EndsWithin, NothingPast, StopKept, WholeAtEnd}
use Rattle.search.proofs.Refusals.{accepted_is, refusal_read, refused_alike}

-- ---- where a needle stands

starts_cut : (s : ℕ) (text needle : List ℕ) → length needle ≤ s → starts_with (take s text) needle ≡ starts_with text needle
starts_cut s text [] h = refl
starts_cut zero text (n ∷ ns) h = absurd (not-suc-le-zero h)
starts_cut (suc s) [] (n ∷ ns) h = refl
starts_cut (suc s) (x ∷ xs) (n ∷ ns) h = ap (λ (b : Bool). eqb x n && b) (starts_cut s xs ns (le_of_suc-le-suc h))

starts_cut_from : (p s : ℕ) (text needle : List ℕ) → p + length needle ≤ s → starts_with (drop p (take s text)) needle ≡ starts_with (drop p text) needle
starts_cut_from zero s text needle h = starts_cut s text needle (omega arith)
starts_cut_from (suc p) zero text needle h = absurd (omega arith)
starts_cut_from (suc p) (suc s) [] needle h = refl
starts_cut_from (suc p) (suc s) (x ∷ xs) needle h = starts_cut_from p s xs needle (omega arith)

pub ends_within : EndsWithin
ends_within text needle stop p reach =
    by_test (leb (p + length needle) stop)
    (λ e. let h = leb-true (p + length needle) stop e in
    rw (length-take-le stop text reach, e, le-leb (p + length needle) (length text) (omega arith)) (starts_cut_from p stop text needle h))
    (λ e. rw (length-take-le stop text reach, e))

-- ---- the stop is kept

module _ (words : Bool) (text needle : List ℕ) where
  abbrev N : Cursor → Next
  N = next_match words text needle

  pub next_kept : (c : Cursor) → (cursor_of (N c)).stop ≡ c.stop
  unfolding next_match
  next_kept c = by_refusal (refusal (length text) (length needle) c)
    where
      by_end : (e : Ended) → (cursor_of (accepted c e)).stop ≡ c.stop
      by_end (match_at p k) = refl
      by_end (nowhere k) = refl

      by_refusal : (r : Result (Unit {0}) Refusal) → (cursor_of (answered r c (walk words (front text c) needle))).stop ≡ c.stop
      by_refusal (Ok u) = by_end (walk words (front text c) needle c.position)
      by_refusal (Err r) = refl

  from_kept : (k : ℕ) (c : Cursor) → (fill_from N k c).cursor.stop ≡ c.stop
  from_kept zero c = refl
  from_kept (suc k) c = by_answer (N c) (from_kept k) ∙ next_kept c
    where
      by_answer : (x : Next) → ((d : Cursor) → (fill_from N k d).cursor.stop ≡ d.stop) → (after_next (fill_from N k) x).cursor.stop ≡ (cursor_of x).stop
      by_answer (Match p d) rest = rest d
      by_answer (Absent d) rest = refl
      by_answer (Refused r d) rest = refl

  call_kept : (x : Call) (c : Cursor) → (cursor_by words text needle x c).stop ≡ c.stop
  unfolding fill
  call_kept a_next c = next_kept c
  call_kept (a_fill zero) c = empty (refusal (length text) (length needle) c)
    where
      empty : (r : Result (Unit {0}) Refusal) → (empty_list c r).cursor.stop ≡ c.stop
      empty (Ok u) = refl
      empty (Err r) = refl
  call_kept (a_fill (suc k)) c = from_kept (suc k) c

pub stop_kept : StopKept
stop_kept words text needle [] c = refl
stop_kept words text needle (x ∷ xs) c =
    stop_kept words text needle xs (cursor_by words text needle x c) ∙ call_kept words text needle x c

-- ---- nothing past it

module _ (words : Bool) (text text' needle : List ℕ) (stop : ℕ) (alike : AlikeBelow stop text text') where
  refusal_alike : (c : Cursor) → c.stop ≡ stop → refusal (length text) (length needle) c ≡ refusal (length text') (length needle) c
  refusal_alike c at =
      refused_alike (length text) (length text') (length needle) c alike.small alike.small' (omega (arith, alike.reaches)) (omega (arith, alike.reaches'))

  pub next_alike : (c : Cursor) → c.stop ≡ stop → next_match words text needle c ≡ next_match words text' needle c
  unfolding next_match
  next_alike c at = rw (refusal_alike c at, at, alike.same)

  pub from_alike : (k : ℕ) (c : Cursor) → c.stop ≡ stop → fill_from (next_match words text needle) k c ≡ fill_from (next_match words text' needle) k c
  from_alike zero c at = refl
  from_alike (suc k) c at =
      by_answer (next_match words text needle c) (next_kept words text needle c ∙ at) (from_alike k)
      ∙ ap (after_next (fill_from (next_match words text' needle) k)) (next_alike c at)
    where
      by_answer : (x : Next) → (cursor_of x).stop ≡ stop
          → ((d : Cursor) → d.stop ≡ stop → fill_from (next_match words text needle) k d ≡ fill_from (next_match words text' needle) k d)
          → after_next (fill_from (next_match words text needle) k) x ≡ after_next (fill_from (next_match words text' needle) k) x
      by_answer (Match p d) e rest = rw (rest d e)
      by_answer (Absent d) e rest = refl
      by_answer (Refused r d) e rest = refl

  said_alike : (k : ℕ) (c : Cursor) → c.stop ≡ stop → said_by words text needle k c ≡ said_by words text' needle k c
  said_alike zero c at = refl
  said_alike (suc k) c at =
      let rest = said_alike k (cursor_of (next_match words text needle c)) (next_kept words text needle c ∙ at) in
      ap (λ (l : List Said). said (next_match words text needle c) ∷ l) rest ∙ ap (λ (x : Next). said x ∷ said_by words text' needle k (cursor_of x)) (next_alike c at)

  fill_alike : (k : ℕ) (c : Cursor) → c.stop ≡ stop → fill words text needle k c ≡ fill words text' needle k c
  unfolding fill
  fill_alike zero c at = ap (empty_list c) (refusal_alike c at)
  fill_alike (suc k) c at = from_alike (suc k) c at

  -- what a call gives, and the cursor after it
  call_alike : (x : Call) (c : Cursor) → c.stop ≡ stop → (given_by words text needle x c ≡ given_by words text' needle x c) × (cursor_by words text needle x c ≡ cursor_by words text' needle x c)
  call_alike a_next c at = let e = next_alike c at in (ap (λ (x : Next). found_in (said x ∷ [])) e, ap cursor_of e)
  call_alike (a_fill k) c at = let e = fill_alike k c at in (ap (λ (f : Fill). f.positions) e, ap (λ (f : Fill). f.cursor) e)

  calls_alike : (calls : List Call) (c : Cursor) → c.stop ≡ stop
      → (all_given words text needle calls c ≡ all_given words text' needle calls c) × (cursor_after_all words text needle calls c ≡ cursor_after_all words text' needle calls c)
  calls_alike [] c at = (refl, refl)
  calls_alike (x ∷ xs) c at =
      let e = call_alike x c at in
      let rest = calls_alike xs (cursor_by words text needle x c) (call_kept words text needle x c ∙ at) in
      (rw (rest.0, e.0, e.1), rest.1 ∙ ap (cursor_after_all words text' needle xs) e.1)

pub nothing_past : NothingPast
nothing_past words text text' needle c alike = record {
  next = next_alike words text text' needle c.stop alike c refl;
  fills = λ k. fill_alike words text text' needle c.stop alike k c refl;
  says = λ k. said_alike words text text' needle c.stop alike k c refl;
  given = λ calls. (calls_alike words text text' needle c.stop alike calls c refl).0;
  after = λ calls. (calls_alike words text text' needle c.stop alike calls c refl).1;
}

pub whole_at_end : WholeAtEnd
unfolding next_match
whole_at_end words text needle c e = rw (e, take-length text)

-- ---- the text cut at the stop, where a call is accepted

module _ (words : Bool) (text needle : List ℕ) (c : Cursor) (accepted : refusal (length text) (length needle) c ≡ Ok tt) where
  abbrev cut : List ℕ
  cut = take c.stop text

  pub front_length : length cut ≡ c.stop
  front_length = length-take-le c.stop text (accepted_is (length text) (length needle) c accepted).stop

  front_alike : AlikeBelow c.stop cut text
  front_alike =
      let known = accepted_is (length text) (length needle) c accepted in record {
        small = omega (arith, front_length, known.stop, known.text);
        small' = known.text;
        reaches = omega (arith, front_length);
        reaches' = known.stop;
        same = take-take c.stop c.stop text (omega arith);
      }

  -- it may be walked
  pub front_walkable : (l : ℕ) (list : List ℕ) → l ≡ min (count words) (length needle) → 0 < length list → Walkable words cut needle l c list
  front_walkable l list size places = record {
    accepted = refusal_alike words cut text needle c.stop front_alike c refl ∙ accepted;
    cut = sym front_length;
    size = size;
    places = places;
  }

  -- and its walk is the whole text's
  pub front_walks : (list : List ℕ) (w : Walked) (list' : List ℕ) → Walks (next_match words cut needle) c list w list' → Walks (next_match words text needle) c list w list'
  front_walks list w list' walks =
      let same = from_alike words cut text needle c.stop front_alike (length list) c refl in record {
        answer = walks.answer ∙ ap answer_of same;
        list_after = walks.list_after ∙ ap (λ (f : Fill). written f.positions list) same;
        one = λ e. walks.one e ∙ next_alike words cut text needle c.stop front_alike c refl;
      }

-- The same of a text and a needle whose elements are read as numbers, where the code accepts them.
module _ {A : Type 0} {numbers : List A → List ℕ} {number : A → ℕ} (r : Reading numbers number) (words : Bool) (text needle : List A) (c : Cursor) (accepted : refusal (length text) (length needle) c ≡ Ok tt) where
  abbrev part : List A
  part = take c.stop text

  read : refusal (length (numbers text)) (length (numbers needle)) c ≡ Ok tt
  read = refusal_read r text needle c ∙ accepted

  pub part_length : c.stop ≡ length part
  part_length = sym (length-take-le c.stop text (accepted_is (length text) (length needle) c accepted).stop)

  pub part_walkable : (l b : ℕ) (list : List ℕ) → l ≡ min (length needle) b → b ≡ count words → 0 < length list → Walkable words (numbers part) (numbers needle) l c list
  part_walkable l b list size wide places = rw (r.front c.stop text) (front_walkable words (numbers text) (numbers needle) c read l list (omega (arith, r.long needle)) places)

  pub part_walks : (list : List ℕ) (w : Walked) (list' : List ℕ) → Walks (next_match words (numbers part) (numbers needle)) c list w list' → Walks (next_match words (numbers text) (numbers needle)) c list w list'
  part_walks list w list' walks = front_walks words (numbers text) (numbers needle) c read list w list' (rw (r.front c.stop text) at walks)
