-- What the tests of entries come to. Assumes nothing.
use Prim.Native.Nat.{ℕ, zero, suc, ◌+◌, ◌≤◌, ◌<◌}
use mathlib.Core.Path.{◌≡◌, refl, sym, ◌∙◌}
use mathlib.Core.Bool.{Bool, true, false, cond, ◌||◌}
use mathlib.Core.List.{List, [], ◌∷◌, ◌++◌}
use native.Mathlib.Omega.{arith}
use native.Mathlib.Numerals.{add-one}
use lib.Dec.{ltb}
use lib.ListN.{length, get_or, take}
use lib.Seq.{take-suc}
use borrow.Author.Tests.{lt-ltb, le-ltb, ltb-false, eqb-false}
use Rattle.bits.specs.Bits.{any_below}
use Rattle.bits.proofs.Below.{by_order, by_test, or_true, any_more_below}
use Rattle.std.specs.List.{list_any}
use Rattle.std.specs.Prelude.{Result, Ok, Err}
use Rattle.refusals.specs.declared.Refusal.{Refusal}
use Rattle.refusals.specs.declared.Refusal.TheVariants.{Count}
use Rattle.refusals.specs.declared.Refusal.TheVariants as TheVariants
use Rattle.entries.specs.declared.Entry.{Entry}
use Rattle.entries.specs.Entries.{bad_entry, no_entry, form_refusal, if_accepted}

-- ---- a test of each number below n

or_false : (x : Bool) → (x || false) ≡ x
or_false true = refl
or_false false = refl

module _ (p : ℕ → Bool) where
  -- one that passes
  pub any_at : (n i : ℕ) → i < n → p i ≡ true → any_below n p ≡ true
  any_at n i h e = any_more_below p (suc i) n h (rw e (or_true (any_below i p)))

  -- one more that does not; b tells whether one of those before it passes
  pub any_next : (i : ℕ) (b : Bool) → b ≡ any_below i p → p i ≡ false → b ≡ any_below (i + 1) p
  any_next i b h e = h ∙ sym (rw (add-one, e) (or_false (any_below i p)))

-- ---- bad entries

-- an entry that is not bad has a minute of the day, and a name within 32
good_parts : (s t : Bool) → (s || t) ≡ false → (s ≡ false) × (t ≡ false)
good_parts true t e = absurd (eqb-false 0 0 e refl)
good_parts false t e = (refl, e)

pub good_minute : (e : Entry) → bad_entry e ≡ false → e.minute ≤ 1439
unfolding bad_entry
good_minute e h = ltb-false 1439 e.minute (good_parts (ltb 1439 e.minute) (ltb 32 e.length) h).0

pub good_length : (e : Entry) → bad_entry e ≡ false → e.length ≤ 32
unfolding bad_entry
good_length e h = ltb-false 32 e.length (good_parts (ltb 1439 e.minute) (ltb 32 e.length) h).1

-- ---- the number

module _ (es : List Entry) (n : ℕ) where
  abbrev pub bad_at : ℕ → Bool
  bad_at i = bad_entry (get_or es i no_entry)

  pub too_many : 200 < n → form_refusal es n ≡ Err Count
  unfolding form_refusal
  too_many h = rw (lt-ltb 200 n h)

  -- one that is bad
  pub one_bad : (i : ℕ) → n ≤ 200 → i < n → bad_at i ≡ true → form_refusal es n ≡ Err TheVariants.Entry
  unfolding form_refusal
  one_bad i h u e = rw (le-ltb 200 n h, any_at bad_at n i u e)

  -- accepted, the count is within 200 and no entry is bad
  pub form_count : form_refusal es n ≡ Ok tt → n ≤ 200
  form_count e = by_order 200 n (λ h. absurd (let f : form_refusal es n ≡ Err Count = too_many h in cc)) (λ h. h)

  pub form_good : form_refusal es n ≡ Ok tt → (i : ℕ) → i < n → bad_at i ≡ false
  form_good e i u =
      by_test (bad_at i) (λ t. absurd (let f : form_refusal es n ≡ Err TheVariants.Entry = one_bad i (form_count e) u t in cc)) (λ t. t)

-- ---- the first entries, looked at one after the other

some_more : (p : Entry → Bool) (xs : List Entry) (x : Entry) → list_any p (xs ++ x ∷ []) ≡ (list_any p xs || p x)
some_more p [] x = or_false (p x)
some_more p (y ∷ ys) x = by_test (p y) (λ e. rw e) (λ e. rw e (some_more p ys x))

some_front : (p : Entry → Bool) (es : List Entry) (n : ℕ) → n ≤ length es → list_any p (take n es) ≡ any_below n (λ i. p (get_or es i no_entry))
some_front p es zero h = refl
some_front p es (suc n) h = rw (take-suc es n no_entry h, some_more, some_front p es n (omega arith))

pub form_by_list : (es : List Entry) (n : ℕ) → length es ≡ 200 → form_refusal es n ≡ cond (ltb 200 n) (Err Count) (cond (list_any bad_entry (take n es)) (Err TheVariants.Entry) (Ok tt))
unfolding form_refusal
form_by_list es n h =
    by_order 200 n (λ u. rw (lt-ltb 200 n u)) (λ u. rw (some_front bad_entry es n (omega arith)))

-- ---- tests, one after the other

pub accepted_both : {A : Type 0} {a : A} (t : Result (Unit {0}) Refusal) (next : Result A Refusal) → if_accepted t next ≡ Ok a → (t ≡ Ok tt) × (next ≡ Ok a)
accepted_both (Ok tt) next e = (refl, e)
accepted_both (Err r) next e = cc
