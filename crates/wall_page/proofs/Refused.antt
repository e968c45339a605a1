-- How the call refuses entries and pages, and the page that it leaves. Assumes nothing.
use Prim.Native.Nat.{ℕ, ◌*◌, ◌≤◌, ◌<◌}
use mathlib.Core.Path.{◌≡◌, sym, ◌∙◌}
use mathlib.Core.List.{List}
use native.Mathlib.Omega.{arith}
use lib.ListN.{length, take}
use lib.Seq.{length-take-le, get_or-take}
use borrow.Author.Tests.{lt-ltb, le-ltb}
use Rattle.std.specs.Prelude.{Result, Ok, Err}
use Rattle.refusals.specs.declared.Refusal.{Refusal}
use Rattle.refusals.specs.declared.Refusal.TheVariants.{Count, Page}
use Rattle.bits.proofs.Below.{by_order}
use Rattle.decimal.proofs.Columns.{by_answer}
use Rattle.entries.specs.declared.Entry.{Entry}
use Rattle.entries.specs.Entries.{form_refusal, no_entry}
use Rattle.entries.proofs.Tests.{too_many, form_count, form_good, accepted_both}
use Rattle.wall_page.specs.Pages.{page_of, page_refusal, page_after, DayPage}
use Rattle.wall_page.specs.Writers.{Room, HasLines}

module _ (es : List Entry) (n : ℕ) where
  -- ---- the numbers

  pub refused_by_form : (room : ℕ) {r : Refusal} → form_refusal es n ≡ Err r → page_refusal es n room ≡ Err r
  unfolding page_refusal
  refused_by_form room h = rw h

  -- a count above 200, whatever the entries and the page are
  pub many_refused : (room : ℕ) → 200 < n → page_refusal es n room ≡ Err Count
  many_refused room h = refused_by_form room (too_many es n h)

  pub refused_by_page : (room : ℕ) → form_refusal es n ≡ Ok tt → room < 50 * n → page_refusal es n room ≡ Err Page
  unfolding page_refusal
  refused_by_page room e h = rw (e, lt-ltb room (50 * n) h)

  pub not_refused : (room : ℕ) → form_refusal es n ≡ Ok tt → 50 * n ≤ room → page_refusal es n room ≡ Ok tt
  unfolding page_refusal
  not_refused room e h = rw (e, le-ltb room (50 * n) h)

  -- accepted, each test was passed
  pub accepted_form : (room : ℕ) → page_refusal es n room ≡ Ok tt → form_refusal es n ≡ Ok tt
  unfolding page_refusal
  accepted_form room z = (accepted_both (form_refusal es n) _ z).0

  pub accepted_room : (room : ℕ) → page_refusal es n room ≡ Ok tt → 50 * n ≤ room
  accepted_room room z =
      by_order room (50 * n) (λ h. let e = refused_by_page room (accepted_form room z) h in cc) (λ h. h)

  -- ---- the page

  pub page_err : (b : List ℕ) (r : Refusal) → page_refusal es n (length b) ≡ Err r → page_after es n b ≡ b
  unfolding page_after
  page_err b r e = rw e

  pub page_kept : (b : List ℕ) → (page_refusal es n (length b) ≡ Ok tt → ⊥) → page_after es n b ≡ b
  page_kept b h = by_answer (page_refusal es n (length b)) (λ e. absurd (h e)) (page_err b)

  pub page_written : (b : List ℕ) → page_refusal es n (length b) ≡ Ok tt → page_after es n b ≡ page_of es n b
  unfolding page_after
  page_written b e = rw e

  -- ---- the call

  pub refused : (b : List ℕ) {out : Result (Unit {0}) Refusal} (r : Refusal) → page_refusal es n (length b) ≡ Err r → out ≡ Err r → DayPage es n b b out
  refused b r e h = record { answer = h ∙ sym e; page = sym (page_err b r e) }

  pub accepted : (b after : List ℕ) → form_refusal es n ≡ Ok tt → 50 * n ≤ length b → after ≡ page_of es n b → DayPage es n b after (Ok tt)
  accepted b after e h p =
      let z = not_refused (length b) e h in
      record { answer = sym z; page = p ∙ sym (page_written b z) }

  -- ---- the entries within the count

  module _ (h : length es ≡ 200) (e : form_refusal es n ≡ Ok tt) where
    pub first_long : length (take n es) ≡ n
    first_long = length-take-le n es (omega (arith, form_count es n e))

    pub first_fit : (b : List ℕ) → 50 * n ≤ length b → Room (take n es) b
    first_fit b r =
        record {
          good = λ i u. rw (get_or-take n es i no_entry (omega (arith, first_long))) (form_good es n e i (omega (arith, first_long)));
          room = omega (arith, first_long);
        }

    pub first_written : (b after : List ℕ) → HasLines (take n es) b after → after ≡ page_of es n b
    unfolding page_of
    first_written b after w = rw first_long at w

-- what closes the bounds of `day_page` and what `put_lines` asks
pub ruleset bounds = (form_count, first_long, first_fit)
