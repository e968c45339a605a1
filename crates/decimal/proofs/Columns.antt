-- The laws of a refusal, a column and a written buffer. A caller that knows `n < 10 ^ w` uses
-- `accepts`, `writes` or `fills`, and `length_column`. Assumes nothing.
use Prim.Native.Nat.{ℕ, zero, suc, ◌-◌, ◌^◌, ◌≤◌, ◌<◌}
use mathlib.Core.Path.{◌≡◌, refl, sym, ap, ◌∙◌}
use mathlib.Core.List.{List, ◌++◌, append-nil}
use lib.Seq.{take_at, drop_at}
use mathlib.Core.Logic.{by_cases}
use native.Mathlib.Decide.{dec_lt}
use native.Mathlib.Omega.{arith}
use lib.ListN.{length, take, drop, replicate, length-append, length-drop, length-replicate, drop_of_length-le}
use Rattle.std.proofs.lemmas.Grind.{common_steps}
use Rattle.std.proofs.lemmas.List.{take-replicate}
use Rattle.std.specs.Prelude.{Result, Ok, Err}
use Rattle.refusals.specs.declared.Refusal.{Refusal}
use Rattle.refusals.specs.declared.Refusal.TheVariants.{Width, Buffer}
use Rattle.decimal.specs.Decimal.{digits, column, refusal_for, refusal_of, written, value, RightJustified}
use Rattle.decimal.proofs.Digits.{some_digit, fits_width, fits_not, value_digits}

-- ---- refusals, of a number of k digits

pub too_narrow : (k w room : ℕ) → w < k → refusal_for k w room ≡ Err Width
too_narrow k w room h = grind (arith, common_steps)

pub too_wide : (k w room : ℕ) → 20 < w → refusal_for k w room ≡ Err Width
too_wide k w room h = grind (arith, common_steps)

pub too_short : (k w room : ℕ) → 0 < k → k ≤ w → w ≤ 20 → room < w → refusal_for k w room ≡ Err Buffer
too_short k w room p h g s = grind (arith, common_steps)

pub no_refusal : (k w room : ℕ) → 0 < k → k ≤ w → w ≤ 20 → w ≤ room → refusal_for k w room ≡ Ok tt
no_refusal k w room p h g s = grind (arith, common_steps)

-- only then is there no refusal
no_refusal_only : (k w room : ℕ) → 0 < k → refusal_for k w room ≡ Ok tt → (k ≤ w) × (w ≤ 20) × (w ≤ room)
no_refusal_only k w room p e =
    by_cases (dec_lt w k) (λ h. let f = too_narrow k w room h in cc)
    (λ h. by_cases (dec_lt 20 w) (λ g. let f = too_wide k w room g in cc)
    (λ g. by_cases (dec_lt room w) (λ s. let f = too_short k w room p (omega arith) (omega arith) s in cc) (λ s. omega arith)))

-- ---- refusals, of a number n

pub refusal_told : {r : Result (Unit {0}) Refusal} (n k w room : ℕ) → k ≡ length (digits n) → r ≡ refusal_for k w room → r ≡ refusal_of n w room
unfolding refusal_of
refusal_told n k w room e h = h ∙ ap (λ (m : ℕ). refusal_for m w room) e

-- accepted, the digits fit the width and the width the buffer
pub accepted_fits : (n w room : ℕ) → refusal_of n w room ≡ Ok tt → (length (digits n) ≤ w) × (w ≤ 20) × (w ≤ room)
unfolding refusal_of
accepted_fits n w room e = no_refusal_only (length (digits n)) w room (some_digit n) e

-- a number below 10 ^ w is accepted in w columns
pub accepts : (n w room : ℕ) → n < 10 ^ w → 0 < w → w ≤ 20 → w ≤ room → refusal_of n w room ≡ Ok tt
unfolding refusal_of
accepts n w room h p g s = no_refusal (length (digits n)) w room (some_digit n) (fits_width w n p h) g s

-- and any other is refused there, by number 8
pub refuses : (n w room : ℕ) → 10 ^ w ≤ n → refusal_of n w room ≡ Err Width
unfolding refusal_of
refuses n w room h = too_narrow (length (digits n)) w room (fits_not w n h)

-- ---- columns and buffers

column_length : (n w : ℕ) → length (digits n) ≤ w → length (column n w) ≡ w
unfolding column
column_length n w h = rw (length-append, length-replicate) (omega arith)

pub length_column : (n w : ℕ) → n < 10 ^ w → 0 < w → length (column n w) ≡ w
length_column n w h p = column_length n w (fits_width w n p h)

-- read back, a column stands for its number: a space counts as nothing
value_spaced : (k : ℕ) (ds : List ℕ) → value (replicate k 32 ++ ds) ≡ value ds
value_spaced zero ds = refl
value_spaced (suc k) ds = value_spaced k ds

pub value_column : (n w : ℕ) → value (column n w) ≡ n
unfolding column
value_column n w = value_spaced (w - length (digits n)) (digits n) ∙ value_digits n

pub written_accepted : (n w : ℕ) (buffer : List ℕ) → refusal_of n w (length buffer) ≡ Ok tt → written n w buffer ≡ column n w ++ drop w buffer
unfolding written
written_accepted n w buffer e = rw e

pub written_err : (n w : ℕ) (buffer : List ℕ) (r : Refusal) → refusal_of n w (length buffer) ≡ Err r → written n w buffer ≡ buffer
unfolding written
written_err n w buffer r e = rw e

-- accepted, or refused
pub by_answer {ℓ} : {X : Type ℓ} (t : Result (Unit {0}) Refusal) → (t ≡ Ok tt → X) → ((r : Refusal) → t ≡ Err r → X) → X
by_answer (Ok tt) f g = f refl
by_answer (Err r) f g = g r refl

pub written_refused : (n w : ℕ) (buffer : List ℕ) → (refusal_of n w (length buffer) ≡ Ok tt → ⊥) → written n w buffer ≡ buffer
written_refused n w buffer h = by_answer (refusal_of n w (length buffer)) (λ e. absurd (h e)) (written_err n w buffer)

-- a number below 10 ^ w is written in w columns at the front of a buffer
pub writes : (n w : ℕ) (buffer : List ℕ) → n < 10 ^ w → 0 < w → w ≤ 20 → w ≤ length buffer → written n w buffer ≡ column n w ++ drop w buffer
writes n w buffer h p g s = written_accepted n w buffer (accepts n w (length buffer) h p g s)

-- and fills a buffer of that length
pub fills : (n w : ℕ) (buffer : List ℕ) → n < 10 ^ w → 0 < w → w ≤ 20 → length buffer ≡ w → written n w buffer ≡ column n w
fills n w buffer h p g s =
    let f : length buffer ≤ w = omega arith in
    rw (writes n w buffer h p g (omega arith), drop_of_length-le buffer f, append-nil)

-- no call changes the length of the buffer
pub length_written : (n w : ℕ) (buffer : List ℕ) → length (written n w buffer) ≡ length buffer
length_written n w buffer =
    by_answer (refusal_of n w (length buffer))
    (λ e. let f = accepted_fits n w (length buffer) e in rw (written_accepted n w buffer e, length-append, length-drop, column_length n w f.0) (omega (arith, f.2)))
    (λ r h. rw (written_err n w buffer r h))

-- ---- the call, of a number of k digits

module _ (n w k : ℕ) (buffer : List ℕ) (e : k ≡ length (digits n)) where
  -- refused, the buffer stays
  pub kept_refused : {out : Result (Unit {0}) Refusal} (r : Refusal) → out ≡ Err r → out ≡ refusal_for k w (length buffer) → RightJustified n w buffer buffer out
  kept_refused r q h =
      let t = refusal_told n k w (length buffer) e h in
      record { answer = t; buffer = sym (written_err n w buffer r (sym t ∙ q)) }

  -- accepted, the spaces and then the digits have been put at the end of the width
  pub filled_accepted : (spaces places : List ℕ) → Ok tt ≡ refusal_for k w (length buffer) → spaces ≡ replicate w 32
      → places ≡ take (length (take w (spaces ++ drop w buffer)) - length (digits n)) (take w (spaces ++ drop w buffer)) ++ digits n
      → RightJustified n w buffer (places ++ drop w (spaces ++ drop w buffer)) (Ok tt)
  unfolding column
  filled_accepted spaces places h s d =
      let t = refusal_told n k w (length buffer) e h in
      let l : length (replicate {A = ℕ} w 32) ≡ w = length-replicate w 32 in
      record {
        answer = t;
        buffer =
            rw (written_accepted n w buffer (sym t), d, s, take_at (replicate w 32) (drop w buffer) w l, drop_at (replicate w 32) (drop w buffer) w l, l, take-replicate {X = ℕ} (w - length (digits n)) w 32 (omega arith));
      }
