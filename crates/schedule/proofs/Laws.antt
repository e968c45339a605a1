-- The days of accepted entries are what they must be (specs/Schedules.antt). Assumes nothing.
use Prim.Native.Nat.{ℕ, ◌-◌, ◌<◌}
use mathlib.Core.Path.{◌≡◌, refl, sym, ap, ◌∙◌}
use mathlib.Core.Bool.{Bool, false}
use mathlib.Core.List.Permᴰ
use mathlib.Core.List.{List, []}
use native.Mathlib.Omega.{arith}
use lib.Dec.{eqb}
use lib.ListN.{length, get_or, take, drop, replicate}
use lib.Seq.{take_at, drop_at}
use borrow.Author.Tests.{eqb-false}
use Rattle.std.specs.Prelude.{Ok}
use Rattle.bits.specs.Bits.{any_below}
use Rattle.bits.proofs.Below.{by_test, by_order}
use Rattle.bits.proofs.Lists.{get_or_tabulate}
use Rattle.entries.specs.declared.Entry.{Entry}
use Rattle.entries.specs.Entries.{precedes, no_entry, empty_entry, cleared_entry, filled}
use Rattle.entries.proofs.Order.{clash, tied}
use Rattle.entries.proofs.Tests.{any_at}
use Rattle.schedule.specs.Days.{cleared_front, inserted, number_twice, day_of, day_answer}
use Rattle.schedule.specs.Schedules.{Rearranged, Sorted, Accepted, IsDayOf, IsSchedule}
use Rattle.schedule.proofs.Refused.{accepted_once, answer_is, front_long}
use Rattle.schedule.proofs.Sorting.{Unlike, Apart, apart_from, apart_moved, apart_at, same_day, all_in_order, all_rearranged, in_order_at, empty, length_kept}

none_each : (n : ℕ) (p : ℕ → Bool) → any_below n p ≡ false → (i : ℕ) → i < n → p i ≡ false
none_each n p e i h = by_test (p i) (λ t. clash (any_at p n i h t) e) (λ t. t)

module _ (es : List Entry) (n : ℕ) (z : Accepted es n) where
  -- ---- numbers

  unlike : (i j : ℕ) → i < j → j < n → Unlike (get_or es i no_entry) (get_or es j no_entry)
  unfolding number_twice
  unlike i j h k =
      eqb-false (get_or es i no_entry).number (get_or es j no_entry).number
      (none_each j (λ i. eqb (get_or es i no_entry).number (get_or es j no_entry).number) (none_each n _ (accepted_once es n z) j k) i h)

  number_at : (i : ℕ) → i < n → (get_or (cleared_front es n) i no_entry).number ≡ (get_or es i no_entry).number
  unfolding cleared_front cleared_entry
  number_at i h = ap (λ (e : Entry). e.number) (get_or_tabulate n i (λ i. cleared_entry (get_or es i no_entry)) no_entry h)

  front_apart : Apart (cleared_front es n)
  front_apart =
      apart_from (cleared_front es n)
      (λ i j h k. let u : j < n = omega (arith, front_long es n) in
      λ q. unlike i j h u (sym (number_at i (omega arith)) ∙ q ∙ number_at j u))

  no_ties : (i j : ℕ) → i < n → j < n → precedes (get_or es i no_entry) (get_or es j no_entry) ≡ false
      → precedes (get_or es j no_entry) (get_or es i no_entry) ≡ false → i ≡ j
  no_ties i j h k p q =
      let same = (tied (get_or es i no_entry) (get_or es j no_entry) p q).2 in
      by_order i j (λ u. absurd (unlike i j u k same)) (λ u. by_order j i (λ v. absurd (unlike j i v h (sym same))) (λ v. omega arith))

  -- ---- the day

  abbrev day : List Entry
  day = inserted (cleared_front es n)

  long : length day ≡ n
  long = length_kept (all_rearranged [] (cleared_front es n)) ∙ front_long es n

  day_sorted : Sorted day
  day_sorted i j h k =
      by_test (precedes (get_or day i no_entry) (get_or day j no_entry)) (λ t. t)
      (λ t. absurd (apart_at (apart_moved (Permᴰ.symm (all_rearranged [] (cleared_front es n))) front_apart) i j h k
      (tied (get_or day i no_entry) (get_or day j no_entry) t (in_order_at no_entry (all_in_order (cleared_front es n) empty) i j h k)).2))

  front_is : take n (filled day) ≡ day
  unfolding filled
  front_is = take_at day _ n long

  rest_is : drop n (filled day) ≡ replicate (200 - n) empty_entry
  unfolding filled
  rest_is = drop_at day _ n long ∙ rw long

  day_of_lem : IsDayOf es n (day_of es n)
  unfolding day_of
  day_of_lem = record {
    counted = refl;
    sorted = rw front_is day_sorted;
    rearranged = rw front_is (all_rearranged [] (cleared_front es n));
    zeros = rest_is;
  }

  is_day : (day_answer es n ≡ Ok (day_of es n)) × IsDayOf es n (day_of es n)
  is_day = (answer_is es n z, day_of_lem)

one_day : (es fs : List Entry) (n : ℕ) → Accepted es n → Accepted fs n
    → Rearranged (cleared_front es n) (cleared_front fs n) → day_answer es n ≡ day_answer fs n
unfolding day_answer day_of
one_day es fs n z w r = rw (z, w, same_day r (front_apart es n z) [])

pub is_schedule : IsSchedule
is_schedule = record { is_day = is_day; one_day = one_day; no_ties = no_ties }
