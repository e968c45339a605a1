-- What a span is: the front of the text up to the first element that does not belong. All of it
-- belongs, it is the whole text or the next element does not belong, and no longer front belongs
-- whole. Assumes nothing.
use Prim.Native.Nat.{ℕ, ◌≤◌, ◌<◌}
use mathlib.Core.Path.{◌≡◌}
use mathlib.Core.Bool.{Bool, true, false, not}
use mathlib.Core.List.{List}
use native.Mathlib.Omega.{arith}
use lib.ListN.{length, get_or, length-take}
use borrow.Author.Tests.{not-true, not-false}
use Rattle.bits.specs.Bits.{least_below}
use Rattle.bits.proofs.Below.{by_order, least_within, least_before, least_passes}
use Rattle.spans.specs.Spans.{span_length, span, LongestFront}

module _ (belongs : ℕ → Bool) (text : List ℕ) where
  abbrev outside : ℕ → Bool
  outside j = not (belongs (get_or text j 0))

  pub within : span_length belongs text ≤ length text
  unfolding span_length
  within = least_within (length text) _

  long : length (span belongs text) ≡ span_length belongs text
  long = rw length-take (omega (arith, within))

  before : (j : ℕ) → j < span_length belongs text → belongs (get_or text j 0) ≡ true
  unfolding span_length
  before j h = not-false (belongs (get_or text j 0)) (least_before (length text) outside j h)

  next : span_length belongs text < length text → belongs (get_or text (span_length belongs text) 0) ≡ false
  unfolding span_length
  next h = not-true (belongs (get_or text (least_below (length text) outside) 0)) (least_passes (length text) outside h)

  most : (k : ℕ) → k ≤ length text → ((j : ℕ) → j < k → belongs (get_or text j 0) ≡ true) → k ≤ span_length belongs text
  most k h f =
      by_order (span_length belongs text) k
      (λ g. let t : belongs (get_or text (span_length belongs text) 0) ≡ true = f (span_length belongs text) g in
      let u : belongs (get_or text (span_length belongs text) 0) ≡ false = next (omega arith) in
      absurd (let z : ◌≡◌ {A = ℕ} 0 1 = cc in omega arith))
      (λ g. g)

  pub longest_front : LongestFront belongs text (span belongs text)
  longest_front =
      record { front = rw long; all_belong = rw long before; next_does_not = rw long next; none_longer = rw long most }
