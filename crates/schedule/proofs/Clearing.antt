-- Entries are cleared in place, one by one, and empty ones fill the places after them. Assumes
-- nothing.
use Prim.Native.Nat.{ℕ, suc, ◌+◌, ◌-◌, ◌≤◌, ◌<◌}
use mathlib.Core.Path.{◌≡◌, sym, ap, ◌∙◌}
use mathlib.Core.List.{List, [], ◌∷◌, ◌++◌, append_assoc, append-nil}
use native.Mathlib.Omega.{arith}
use native.Mathlib.Numerals.{add-one}
use lib.ListN.{length, get_or, take, drop, set, replicate, length-append, length-take, length-drop, drop_of_length-le}
use lib.Seq.{drop-cons, take_at, set_at, get_or_at}
use borrow.Rule.Slice.PartMut.{put_mid, mid_of}
use Rattle.bits.specs.Bits.{tabulate}
use Rattle.bits.proofs.Lists.{length_tabulate}
use Rattle.entries.specs.declared.Entry.{Entry}
use Rattle.entries.specs.Entries.{cleared_entry, empty_entry, filled, no_entry}
use Rattle.schedule.specs.Days.{cleared_front}

module _ (es : List Entry) where
  abbrev clear_at : ℕ → Entry
  clear_at j = cleared_entry (get_or es j no_entry)

  -- the first i entries are cleared, the others as they were
  abbrev pub clearing : ℕ → List Entry
  clearing i = tabulate i clear_at ++ drop i es

  pub clearing_more : (l : List Entry) (i : ℕ) (v : Entry) → i < length es → l ≡ clearing i → v ≡ cleared_entry (get_or l i no_entry) → set l i v ≡ clearing (i + 1)
  unfolding tabulate
  clearing_more l i v h e q =
      let split : l ≡ tabulate i clear_at ++ get_or es i no_entry ∷ drop (suc i) es =
      e ∙ ap (λ (m : List Entry). tabulate i clear_at ++ m) (drop-cons es i no_entry h) in
      let read : get_or l i no_entry ≡ get_or es i no_entry =
      ap (λ (m : List Entry). get_or m i no_entry) split ∙ get_or_at (tabulate i clear_at) (get_or es i no_entry) (drop (suc i) es) no_entry i (length_tabulate i clear_at) in
      ap (λ (m : List Entry). set m i v) split
      ∙ set_at (tabulate i clear_at) (get_or es i no_entry) (drop (suc i) es) v i (length_tabulate i clear_at)
      ∙ rw (q, read, add-one) (sym (append_assoc (tabulate i clear_at) (clear_at i ∷ []) (drop (suc i) es)))

  pub cleared_all : (l part : List Entry) (n : ℕ) → n ≤ 200 → length es ≡ 200 → l ≡ clearing n
      → part ≡ replicate (length (mid_of n (200 - n) l)) empty_entry → put_mid n (200 - n) l part ≡ filled (cleared_front es n)
  unfolding filled cleared_front
  cleared_all l part n h k e q =
      let long : length l ≡ 200 = ap length e ∙ omega (arith, length-append (tabulate n clear_at) (drop n es), length_tabulate n clear_at, length-drop n es) in
      let mid : length (mid_of n (200 - n) l) ≡ 200 - n = omega (arith, length-take (200 - n) (drop n l), length-drop n l) in
      let rest : drop (200 - n) (drop n l) ≡ [] = drop_of_length-le (drop n l) {i = 200 - n} (omega (arith, length-drop n l)) in
      let front : take n l ≡ tabulate n clear_at = ap (take n) e ∙ take_at (tabulate n clear_at) (drop n es) n (length_tabulate n clear_at) in
      rw (q, mid, rest, front, append-nil, length_tabulate)
