-- The order of two texts (document 01, "Runs, order and columns"): at the first difference the
-- smaller element decides; if one is the front of the other, the shorter is smaller.
use Rattle.std.specs.Prelude.{ℕ, ◌^◌, ◌<◌, min, ◌≡◌, Bool, true, cond, not, ◌&&◌, ◌||◌, List, [], eqb, ltb, length, get_or, ℤ, pos, negsuc, neg_ℤ, Result, Ok, Err, is_ok}
use Rattle.std.specs.Result.{result_and}
use Rattle.std.specs.Ordering.{int_cmp, match_ordering}
use Rattle.std.specs.declared.cmp.Ordering.{Ordering}
use Rattle.std.specs.Int.Signed.{lt_z, le_z}
use Rattle.bits.specs.Bits.{least_below}
use Rattle.unit.specs.Operand.{bits_of, value_of}
use Rattle.refusals.specs.declared.Refusal.{Refusal}
use Rattle.refusals.specs.declared.Refusal.TheVariants.{Text}
use Rattle.blocks.specs.Blocks.{longest_text}

-- the first place where two texts differ, or the end of the shorter
unfoldable pub difference : List ℕ → List ℕ → ℕ
difference x y = least_below (min (length x) (length y)) (λ j. not (eqb (get_or x j 0) (get_or y j 0)))

-- -1 where a is the smaller number, 1 where b is, else 0
abbrev pub sign : ℤ → ℤ → ℤ
sign a b = cond (lt_z a b) (negsuc 0) (cond (lt_z b a) (pos 1) (pos 0))

-- from the first difference, `value` being what an element stands for
abbrev pub order_at : (ℕ → ℤ) → List ℕ → List ℕ → ℕ → ℤ
order_at value x y k =
    cond (ltb k (min (length x) (length y))) (sign (value (get_or x k 0)) (value (get_or y k 0)))
    (sign (pos (length x)) (pos (length y)))

-- -1 where the first text is smaller, 0 where they are equal, else 1
unfoldable pub order : Bool → Bool → List ℕ → List ℕ → ℤ
order words signed x y = order_at (value_of words signed) x y (difference x y)

-- the elements of a text are those of a width
abbrev pub Elements : Bool → List ℕ → Type 0
Elements words x = (i : ℕ) → i < length x → get_or x i 0 < 2 ^ bits_of words

-- What an order of texts must be. proofs/Order.antt shows it for both widths, signed and unsigned.
pub record IsOrder (words signed : Bool) : Type 0 where
  pub antisymmetric : (x y : List ℕ) → order words signed y x ≡ neg_ℤ (order words signed x y)
  pub transitive : (x y z : List ℕ) → Elements words x → Elements words y → Elements words z
      → le_z (order words signed x y) (pos 0) ≡ true → le_z (order words signed y z) (pos 0) ≡ true
      → le_z (order words signed x z) (pos 0) ≡ true
  pub equal_gives_zero : (x : List ℕ) → order words signed x x ≡ pos 0
  pub zero_only_for_equal : (x y : List ℕ) → Elements words x → Elements words y
      → order words signed x y ≡ pos 0 → x ≡ y

-- ---- the calls

-- an order as std tells it: how -1, 0 or 1 compares with 0
abbrev pub ordering_of : ℤ → Ordering
ordering_of z = int_cmp z (pos 0)

-- and back: -1, 0 or 1. proofs/Calls.antt shows this of every order.
abbrev pub told : Ordering → ℤ
told o = match_ordering o (negsuc 0) (pos 0) (pos 1)

-- what refuses two texts of n and m elements
abbrev pub order_refusal : ℕ → ℕ → Result (Unit {0}) Refusal
order_refusal n m = cond (ltb longest_text n || ltb longest_text m) (Err Text) (Ok tt)

-- the order of two texts, or what refuses them
abbrev pub order_answer : Bool → Bool → List ℕ → List ℕ → Result Ordering Refusal
order_answer words signed x y =
    result_and (order_refusal (length x) (length y)) (Ok (ordering_of (order words signed x y)))

-- the second text is given back: it is the smaller one, and the call is not refused
abbrev pub is_second : Bool → Bool → List ℕ → List ℕ → Bool
is_second words signed x y =
    is_ok (order_refusal (length x) (length y)) && lt_z (pos 0) (order words signed x y)

-- the smaller text, the first when equal; refused, the empty front of the first
abbrev pub lesser_text : Bool → Bool → List ℕ → List ℕ → List ℕ
lesser_text words signed x y =
    cond (is_ok (order_refusal (length x) (length y))) (cond (is_second words signed x y) y x) []
