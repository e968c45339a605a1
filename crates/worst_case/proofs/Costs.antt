-- What the walk comes to on a text and a needle that end in `B`: at each position with room a
-- compare for each piece of the needle, and then on by one. Assumes nothing.
use Prim.Native.Nat.{ℕ, zero, suc, ◌+◌, ◌-◌, ◌*◌, ◌≤◌, ◌<◌}
use mathlib.Core.Path.{◌≡◌, refl, sym, ap, ◌∙◌}
use mathlib.Core.Bool.{Bool, true, false}
use mathlib.Core.List.{List}
use lib.ListN.{length, get_or, take, drop, length-take, length-drop}
use lib.Seq.{get_or-take, get_or-drop}
use native.Mathlib.Omega.{arith}
use native.Mathlib.Nat.{suc-mul, zero-mul, zero-add, add_assoc}
use borrow.Author.Tests.{ltb-true}
use Rattle.bits.proofs.Below.{by_order}
use Rattle.unit.specs.Operand.{count}
use Rattle.search.specs.Walk.{Later, none_differs, one_differs, more, piece_differs, after_piece, later, here, onward, after_later, block, first_index, step, match_at, nowhere, walk, plus}
use Rattle.search.proofs.Compare.{FitsAt, ordered_before, ordered_at, each_differs}
use Rattle.unit.proofs.Unit.{count_some}
use Rattle.search.proofs.Pieces.{pieces, pieces_more, later_none, later_some, LaterOk, later_ok}
use Rattle.search.proofs.Steps.{step_fits, step_index, step_past}
use Rattle.search.proofs.Walks.{walk_here, walk_onward, walk_past}
use Rattle.worst_case.specs.Cases.{letter_a, letter_b}
use Rattle.worst_case.proofs.Letters.{EndsInB}

-- ---- the later pieces

-- how many compares they took
abbrev compares : Later → ℕ
compares (none_differs k) = k
compares (one_differs k) = k

one_more : (l : Later) → compares (more 1 l) ≡ suc (compares l)
one_more (none_differs k) = omega arith
one_more (one_differs k) = omega arith

pieces_none : (words : Bool) → pieces words 0 ≡ 0
unfolding pieces
pieces_none true = refl
pieces_none false = refl

one_piece : (words : Bool) (m : ℕ) → 0 < m → m ≤ count words → pieces words m ≡ 1
one_piece words m some short =
    let left : m - count words ≡ 0 = omega arith in
    pieces_more words m some ∙ ap (λ (k : ℕ). suc (pieces words k)) left ∙ ap suc (pieces_none words)

count_two : (words : Bool) → 1 < count words
count_two true = omega arith
count_two false = omega arith

module _ (words : Bool) where
  -- only the needle's last element can differ
  abbrev DiffersLast : List ℕ → List ℕ → Type 0
  DiffersLast needle text = (i : ℕ) → suc i < length needle → get_or text i 0 ≡ get_or needle i 0

  -- then a piece with more of the needle past it does not
  no_difference : (needle text : List ℕ) → length needle ≤ length text → count words < length needle → DiffersLast needle text
      → piece_differs words needle text ≡ true → ⊥
  no_difference needle text h long same e =
      let b = count words in
      let size : length (take b needle) ≡ b = rw length-take (omega arith) in
      each_differs words (take b needle) (take (length (take b needle)) text) (omega arith) (simp length-take (omega arith)) (ltb-true _ _ e)
      (size ∙ sym (simp length-take (omega arith)))
      (λ i g. rw (get_or-take (length (take b needle)) text i 0 g, get_or-take b needle i 0 (omega arith)) (same i (omega arith)))

  no_piece : (needle text : List ℕ) → length needle ≡ 0 → compares (later words needle text) ≡ pieces words (length needle)
  no_piece needle text none = ap compares (later_none words needle text none) ∙ sym (ap (pieces words) none ∙ pieces_none words)

  module _ (needle text : List ℕ) (h : length needle ≤ length text) (same : DiffersLast needle text) (some : 0 < length needle) where
    abbrev rest : Later
    rest = later words (drop (count words) needle) (drop (count words) text)

    rest_differs_last : DiffersLast (drop (count words) needle) (drop (count words) text)
    rest_differs_last i g =
        let k : suc i < length needle - count words = rw length-drop at g in
        rw (get_or-drop (count words) text, get_or-drop (count words) needle) (same (count words + i) (omega arith))

    -- the compares from whether the first piece differs: only the last piece can
    by_piece : (t : Bool) → piece_differs words needle text ≡ t → compares rest ≡ pieces words (length (drop (count words) needle))
        → compares (after_piece t (λ _. rest)) ≡ pieces words (length needle)
    by_piece true e more =
        by_order (count words) (length needle)
        (λ long. absurd (no_difference needle text h long same e))
        (λ short. sym (one_piece words (length needle) some short))
    by_piece false e more =
        one_more rest ∙ ap suc (more ∙ ap (pieces words) (length-drop (count words) needle)) ∙ sym (pieces_more words (length needle) some)

  -- so each piece is compared; f is no less than the needle's length
  every_piece : (f : ℕ) (needle text : List ℕ) → length needle ≤ f → length needle ≤ length text → DiffersLast needle text
      → compares (later words needle text) ≡ pieces words (length needle)
  every_piece zero needle text hf h same = no_piece needle text (omega arith)
  every_piece (suc f) needle text hf h same =
      by_order 0 (length needle)
      (λ some. let b = count_some words in
      ap compares (later_some words needle text some)
      ∙ by_piece needle text h same some (piece_differs words needle text) refl
      (every_piece f (drop (count words) needle) (drop (count words) text) (rw length-drop (omega arith)) (simp length-drop (omega arith))
      (rest_differs_last needle text h same some)))
      (λ none. no_piece needle text (omega arith))

-- ---- a step

module _ (words : Bool) (n m : ℕ) (text needle : List ℕ) (t : EndsInB n text) (s : EndsInB m needle) (whole : count words ≤ m) (p : ℕ) (room : p + m ≤ n) where
  abbrev b : ℕ
  b = count words

  abbrev x : List ℕ
  x = take b needle

  abbrev y : List ℕ
  y = block words text p

  x_size : length x ≡ b
  x_size = rw length-take (omega (arith, s.size))

  y_size : length y ≡ b
  y_size = rw (length-take, length-drop) (omega (arith, t.size))

  x_at : (i : ℕ) → i < b → get_or x i 0 ≡ get_or needle i 0
  x_at i h = get_or-take b needle i 0 h

  y_at : (i : ℕ) → i < b → get_or y i 0 ≡ get_or text (p + i) 0
  y_at i h = get_or-take b (drop p text) i 0 h ∙ get_or-drop p text i 0

  some : 0 < length needle
  some = omega (arith, s.size, count_some words)

  in_text : p + length needle ≤ length text
  in_text = omega (arith, s.size, t.size)

  -- the needle's front fits in the block from j on, where the text says so
  fits_at : (j : ℕ) → ((i : ℕ) → i < b → j + i < b → get_or text (p + (j + i)) 0 ≡ get_or needle i 0) → FitsAt b x y j
  fits_at j f i hx hb =
      let h : i < b = omega (arith, x_size) in
      (omega (arith, y_size), rw (y_at (j + i) hb, x_at i h) (f i h hb))

  index_none : FitsAt b x y 0 → first_index words text needle p ≡ 0
  index_none fits =
      by_order 0 (first_index words text needle p)
      (λ h. absurd (ordered_before words x y (omega (arith, x_size)) (omega (arith, y_size)) 0 h fits))
      (λ h. omega arith)

  -- the later pieces: each is compared
  abbrev rest_of_needle : Later
  rest_of_needle = later words (drop b needle) (drop (p + b) text)

  rest_fits : length (drop b needle) ≤ length (drop (p + b) text)
  rest_fits = simp length-drop (omega (arith, s.size, t.size))

  rest_compares : suc (compares rest_of_needle) ≡ pieces words m
  rest_compares =
      ap suc
      (every_piece words (length (drop b needle)) (drop b needle) (drop (p + b) text) (omega arith) rest_fits
      (λ i h. let g : suc i < length needle - b = rw length-drop at h in
      rw (get_or-drop (p + b) text, get_or-drop b needle)
      (t.before (p + b + i) (omega (arith, s.size)) ∙ sym (s.before (b + i) (omega (arith, s.size)))))
      ∙ ap (pieces words) (length-drop b needle ∙ ap (λ (k : ℕ). k - b) s.size))
      ∙ sym (pieces_more words m (omega (arith, count_some words)))

  -- at the text's end the needle stands
  module _ (end : p + m ≡ n) where
    same : (i : ℕ) → i < m → get_or text (p + i) 0 ≡ get_or needle i 0
    same i h =
        by_order (suc i) m
        (λ g. t.before (p + i) (omega arith) ∙ sym (s.before i g))
        (λ g. t.last (p + i) (omega arith) ∙ sym (s.last i (omega arith)))

    here_by : (l : Later) → LaterOk words (drop b needle) (drop (p + b) text) l → after_later p l ≡ here (suc (compares l))
    here_by (none_differs k) ok = refl
    here_by (one_differs k) ok =
        absurd (ok.0 (λ i h. let g : i < length needle - b = rw length-drop at h in
        rw (get_or-drop (p + b) text, get_or-drop b needle, add_assoc p b i) (same (b + i) (omega (arith, s.size)))))

    pub step_end : step words text needle p ≡ here (pieces words m)
    step_end =
        step_fits words text needle p some in_text
        (index_none (fits_at 0 (λ i h _. rw zero-add (same i (omega arith)))))
        ∙ here_by rest_of_needle (later_ok words (drop b needle) (drop (p + b) text) rest_fits)
        ∙ ap here rest_compares

  -- before it, all that is held against the needle is `A`
  module _ (more : p + m < n) where
    all_a : (i : ℕ) → i < m → get_or text (p + i) 0 ≡ letter_a
    all_a i h = t.before (p + i) (omega arith)

    on_by : b < m → (l : Later) → LaterOk words (drop b needle) (drop (p + b) text) l → after_later p l ≡ onward (suc p) (suc (compares l))
    on_by long (none_differs k) ok =
        let i = m - 1 - b in
        let at_last : get_or text (p + b + i) 0 ≡ get_or needle (b + i) 0 =
        rw (get_or-drop (p + b) text, get_or-drop b needle) at (ok.0 i (rw length-drop (omega (arith, s.size)))) in
        let a : get_or text (p + b + i) 0 ≡ letter_a = t.before (p + b + i) (omega arith) in
        let z : letter_a ≡ letter_b = sym a ∙ at_last ∙ s.last (b + i) (omega arith) in
        absurd (omega arith)
    on_by long (one_differs k) ok = refl

    -- a needle of one piece fits from 1 on, but for its last element, and not from 0 on
    index_one : m ≤ b → first_index words text needle p ≡ 1
    index_one short =
        let k = first_index words text needle p in
        let x_most : length x ≤ b = omega (arith, x_size) in
        let y_most : length y ≤ b = omega (arith, y_size) in
        by_order 1 k
        (λ h. absurd (ordered_before words x y x_most y_most 1 h
        (fits_at 1 (λ i _ hb. all_a (1 + i) (omega arith) ∙ sym (s.before i (omega arith))))))
        (λ h. by_order 0 k (λ g. omega arith)
        (λ g. let i = m - 1 in
        let two = count_two words in
        let in_block : 0 + i < b = omega arith in
        let at_last = (ordered_at words x y x_most y_most 0 (omega arith) (omega arith) i (omega (arith, x_size)) in_block).1 in
        let as_b : get_or x i 0 ≡ letter_b = x_at i (omega arith) ∙ s.last i (omega arith) in
        let as_a : get_or y (0 + i) 0 ≡ letter_a = y_at (0 + i) in_block ∙ all_a (0 + i) (omega arith) in
        let z : letter_a ≡ letter_b = sym as_a ∙ at_last ∙ as_b in
        absurd (omega arith)))

    pub step_before : step words text needle p ≡ onward (suc p) (pieces words m)
    step_before =
        by_order b m
        (λ long. step_fits words text needle p some in_text
        (index_none (fits_at 0 (λ i h _. rw zero-add (all_a i (omega arith) ∙ sym (s.before i (omega arith))))))
        ∙ on_by long rest_of_needle (later_ok words (drop b needle) (drop (p + b) text) rest_fits)
        ∙ ap (onward (suc p)) rest_compares)
        (λ short. let on : p + 1 ≡ suc p = omega arith in
        let one = sym (one_piece words m (omega (arith, count_some words)) short) in
        step_index words text needle p some in_text 1 (index_one short) (omega arith) (count_two words) ∙ (λ i. onward (on i) (one i)))

-- ---- the walk

module _ (words : Bool) (n m : ℕ) (text needle : List ℕ) (t : EndsInB n text) (s : EndsInB m needle) (whole : count words ≤ m) where
  pub walk_cost : (d p : ℕ) → p + m + d ≡ n → walk words text needle p ≡ match_at (p + d) (suc d * pieces words m)
  walk_cost zero p e =
      walk_here words text needle p (pieces words m) (step_end words n m text needle t s whole p (omega arith) (omega arith))
      ∙ (let there : p ≡ p + 0 = omega arith in
      let once : pieces words m ≡ 1 * pieces words m = rw (suc-mul, zero-mul) (omega arith) in
      λ i. match_at (there i) (once i))
  walk_cost (suc d) p e =
      walk_onward words text needle p (suc p) (pieces words m) (step_before words n m text needle t s whole p (omega arith) (omega arith))
      ∙ ap (plus (pieces words m)) (walk_cost d (suc p) (omega arith))
      ∙ (let there : suc p + d ≡ p + suc d = omega arith in
      let more : pieces words m + suc d * pieces words m ≡ suc (suc d) * pieces words m = rw suc-mul (omega arith) in
      λ i. match_at (there i) (more i))

  pub walk_ends : (p : ℕ) → n < p + m → walk words text needle p ≡ nowhere 0
  walk_ends p h = walk_past words text needle p (step_past words text needle p (omega (arith, t.size, s.size)))
