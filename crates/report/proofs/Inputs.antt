-- Where the first line feed of an input stands, and what the program refuses. Assumes nothing.
use Prim.Native.Nat.{ℕ, suc, ◌≤◌, ◌<◌}
use mathlib.Core.Path.{◌≡◌, refl, sym, ◌∙◌}
use mathlib.Core.Bool.{Bool, true, false, cond}
use mathlib.Core.List.{List, [], ◌∷◌}
use lib.Dec.{eqb, ltb}
use lib.ListN.{length}
use lib.Seq.{length-take-le}
use native.Mathlib.Omega.{arith}
use native.Mathlib.Numerals.{one-add}
use borrow.Author.Tests.{ltb-true, ltb-false, lt-ltb, le-ltb, eq-eqb, ne_eqb}
use Rattle.bits.proofs.Below.{by_test}
use Rattle.std.specs.Prelude.{Ok, Err, Some, None}
use Rattle.std.specs.List.{position, position_or_len}
use Rattle.std.proofs.lemmas.List.Recursion.{is_position_or_len}
use Rattle.refusals.specs.declared.Refusal.TheVariants.{Input, Feed, Needle}
use Rattle.refusals.specs.Numbers.{status}
use Rattle.search.specs.Cursors.{longest_needle}
use Rattle.report.specs.Report.{feed_at, needle_of, longest_input, refusal_of}

-- no count is above the length
less_one : (b : Bool) (k n : ℕ) → k ≤ n → cond b 0 (suc k) ≤ suc n
less_one true k n h = omega arith
less_one false k n h = omega arith

pub feed_within : (input : List ℕ) → feed_at input ≤ length input
unfolding feed_at
feed_within [] = omega arith
feed_within (x ∷ xs) = less_one (eqb x 10) (feed_at xs) (length xs) (feed_within xs)

-- ---- the library's search for the line feed

module _ (input : List ℕ) where
  abbrev feed : ℕ → Bool
  feed byte = eqb byte 10

  is_feed : feed_at input ≡ position_or_len feed input
  unfolding feed_at
  is_feed = is_position_or_len feed_at feed refl (λ x xs. rw one-add refl) input

  pub feed_some : (i : ℕ) → position feed input ≡ Some i → (i ≡ feed_at input) × (i < length input)
  feed_some i e =
      by_test (ltb (position_or_len feed input) (length input))
      (λ t. let at : i ≡ position_or_len feed input = let s = rw t at e in cc in
      (at ∙ sym is_feed, omega (arith, at, ltb-true (position_or_len feed input) (length input) t)))
      (λ t. let s = rw t at e in cc)

  pub feed_none : position feed input ≡ None → feed_at input ≡ length input
  feed_none e =
      by_test (ltb (position_or_len feed input) (length input))
      (λ t. let s = rw t at e in cc)
      (λ t. omega (arith, is_feed, ltb-false (position_or_len feed input) (length input) t, feed_within input))

-- ---- refusals

pub length_needle : (input : List ℕ) → length (needle_of input) ≡ feed_at input
length_needle input = length-take-le (feed_at input) input (feed_within input)

pub too_long : (input : List ℕ) → longest_input < length input → refusal_of input ≡ Err Input
unfolding refusal_of
too_long input h = rw (lt-ltb longest_input (length input) h)

pub no_feed : (input : List ℕ) → length input ≤ longest_input → feed_at input ≡ length input → refusal_of input ≡ Err Feed
unfolding refusal_of
no_feed input h e = rw (le-ltb longest_input (length input) h, eq-eqb (feed_at input) (length input) e)

pub long_needle : (input : List ℕ) → length input ≤ longest_input → (feed_at input ≡ length input → ⊥) → longest_needle < feed_at input → refusal_of input ≡ Err Needle
unfolding refusal_of
long_needle input h n g =
    rw (le-ltb longest_input (length input) h, ne_eqb (feed_at input) (length input) n, lt-ltb longest_needle (length (needle_of input)) (rw length_needle g))

pub no_refusal : (input : List ℕ) → length input ≤ longest_input → (feed_at input ≡ length input → ⊥) → feed_at input ≤ longest_needle → refusal_of input ≡ Ok tt
unfolding refusal_of
no_refusal input h n g =
    rw (le-ltb longest_input (length input) h, ne_eqb (feed_at input) (length input) n, le-ltb longest_needle (length (needle_of input)) (rw length_needle g))

-- every refusal's number is small
pub refusal_small : (input : List ℕ) → status (refusal_of input) ≤ 7
unfolding refusal_of
refusal_small input =
    by_test (ltb longest_input (length input)) (λ e. rw e (omega arith))
    (λ e. rw e (by_test (eqb (feed_at input) (length input)) (λ f. rw f (omega arith))
    (λ f. rw f (by_test (ltb longest_needle (length (needle_of input))) (λ g. rw g (omega arith)) (λ g. rw g (omega arith))))))
