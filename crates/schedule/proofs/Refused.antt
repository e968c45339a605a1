-- How `day_of` refuses entries, and what it answers to those that it accepts. Assumes nothing.
use Prim.Native.Nat.{ℕ, ◌≤◌, ◌<◌}
use mathlib.Core.Path.{◌≡◌, sym, ap, ◌∙◌}
use mathlib.Core.Bool.{true, false}
use mathlib.Core.List.{List}
use lib.ListN.{length, get_or, take}
use lib.Seq.{take_at, length-take-le}
use Rattle.std.specs.Prelude.{Ok, Err}
use Rattle.refusals.specs.declared.Refusal.{Refusal}
use Rattle.refusals.specs.declared.Refusal.TheVariants.{Count, Number}
use Rattle.bits.proofs.Below.{by_test}
use Rattle.bits.proofs.Lists.{length_tabulate}
use Rattle.entries.specs.declared.Entry.{Entry}
use Rattle.entries.specs.Entries.{filled, form_refusal, cleared_entry, no_entry}
use Rattle.entries.proofs.Tests.{too_many, form_count, accepted_both}
use Rattle.schedule.specs.declared.Day.{Day}
use Rattle.schedule.specs.Days.{cleared_front, inserted, number_twice, day_refusal, day_of, day_answer}
use Rattle.schedule.specs.Places.{IsGathered}
use Rattle.schedule.proofs.Twice.{front_twice}

module _ (es : List Entry) (n : ℕ) where
  -- ---- the numbers

  pub refused_by_form : {r : Refusal} → form_refusal es n ≡ Err r → day_refusal es n ≡ Err r
  unfolding day_refusal
  refused_by_form h = rw h

  pub refused_twice : form_refusal es n ≡ Ok tt → number_twice es n ≡ true → day_refusal es n ≡ Err Number
  unfolding day_refusal
  refused_twice h t = rw (h, t)

  pub not_refused : form_refusal es n ≡ Ok tt → number_twice es n ≡ false → day_refusal es n ≡ Ok tt
  unfolding day_refusal
  not_refused h t = rw (h, t)

  -- accepted, each test was passed
  pub accepted_form : day_refusal es n ≡ Ok tt → form_refusal es n ≡ Ok tt
  unfolding day_refusal
  accepted_form z = (accepted_both (form_refusal es n) _ z).0

  pub accepted_once : day_refusal es n ≡ Ok tt → number_twice es n ≡ false
  accepted_once z =
      by_test (number_twice es n) (λ t. let e = refused_twice (accepted_form z) t in cc) (λ t. t)

  pub accepted_count : day_refusal es n ≡ Ok tt → n ≤ 200
  accepted_count z = form_count es n (accepted_form z)

  pub answer_refused : {r : Refusal} → day_refusal es n ≡ Err r → day_answer es n ≡ Err r
  unfolding day_answer
  answer_refused h = rw h

  pub answer_is : day_refusal es n ≡ Ok tt → day_answer es n ≡ Ok (day_of es n)
  unfolding day_answer
  answer_is h = rw h

  -- a count above 200, whatever the entries are
  pub many_refused : 200 < n → day_answer es n ≡ Err Count
  many_refused h = answer_refused (refused_by_form (too_many es n h))

  -- ---- the cleared entries

  pub front_long : length (cleared_front es n) ≡ n
  unfolding cleared_front
  front_long = length_tabulate n (λ i. cleared_entry (get_or es i no_entry))

  pub front_of_filled : take n (filled (cleared_front es n)) ≡ cleared_front es n
  unfolding filled
  front_of_filled = take_at (cleared_front es n) _ n front_long

  -- ---- the day

  pub answer_accepted : (d : Day) (clear : List Entry) → day_refusal es n ≡ Ok tt → clear ≡ filled (cleared_front es n)
      → IsGathered (take n clear) d → Ok d ≡ day_answer es n
  unfolding day_of
  answer_accepted d clear z c g =
      let e : take n clear ≡ cleared_front es n = ap (take n) c ∙ front_of_filled in
      let q : d.entries ≡ filled (inserted (cleared_front es n)) = g.entries ∙ ap (λ (l : List Entry). filled (inserted l)) e in
      let k : d.count ≡ n = g.counted ∙ ap length e ∙ front_long in
      (λ t. Ok (record { entries = q t; count = k t })) ∙ sym (answer_is z)

-- what closes the goals of `accept`, and those of `day_of`
pub ruleset tests = (form_count, refused_by_form, refused_twice, not_refused, front_twice)

pub ruleset days = (accepted_count, answer_refused, length-take-le)
