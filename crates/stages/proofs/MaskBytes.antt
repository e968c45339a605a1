-- A byte of the wide mask: four bits made into four elements of ones, as `byte_at` makes them. What
-- the product is, is computed for all sixteen values of four bits; the law for every bit of a
-- number follows. Stated over the width. Assumes nothing.
use Prim.Native.Nat.{ℕ, ◌*◌, ◌/◌, ◌%◌, ◌^◌, ◌<◌}
use mathlib.Core.Path.{◌≡◌, refl, ap, ◌∙◌}
use mathlib.Core.Bool.{Bool, true, false, cond, ◌&&◌}
use native.Mathlib.Omega.{arith}
use lib.Dec.{eqb, ltb}
use lib.Bits.{bit_and}
use borrow.Author.Tests.{eqb-true, ltb-true}
use Rattle.bits.specs.Bits.{all_below}
use Rattle.bits.proofs.Below.{and_left, and_right, all_each}
use Rattle.bits.proofs.Numbers.{bit_from}
use Rattle.unit.specs.Readings.{byte_read}

-- four elements as one number, and how many bytes they have
abbrev pub four : Bool → ℕ → ℕ
four words n =
    bit_and (n * cond words 0x200040008001 0x204081) (cond words 0x1000100010001 0x1010101)
    * cond words 65535 255

abbrev pub size : Bool → ℕ
size words = cond words 8 4

-- it fits its type, and its bytes are those of the mask
abbrev fits : Bool → ℕ → Bool
fits w n = ltb (four w n) (2 ^ (size w * 8))

abbrev same : Bool → ℕ → ℕ → Bool
same w n k = eqb (four w n / 2 ^ (k * 8) % 256) (byte_read w n k)

abbrev right : Bool → ℕ → Bool
right w n = fits w n && all_below (size w) (same w n)

all_right : (w : Bool) → all_below 16 (right w) ≡ true
all_right true = refl
all_right false = refl

pub four_fits : (w : Bool) (x : ℕ) → four w (x % 16) < 2 ^ (size w * 8)
four_fits w x = ltb-true (four w (x % 16)) (2 ^ (size w * 8)) (and_left (fits w (x % 16)) (all_below (size w) (same w (x % 16))) (all_each 16 (right w) (all_right w) (x % 16) (omega arith)))

four_byte : (w : Bool) (n k : ℕ) → n < 16 → k < size w → four w n / 2 ^ (k * 8) % 256 ≡ byte_read w n k
four_byte w n k h g = eqb-true (four w n / 2 ^ (k * 8) % 256) (byte_read w n k) (all_each (size w) (same w n) (and_right (fits w n) (all_below (size w) (same w n)) (all_each 16 (right w) (all_right w) n h)) k g)

filled_by : (n m : ℕ) → n ≡ m → ◌≡◌ {A = ℕ} (cond (eqb n 1) 255 0) (cond (eqb m 1) 255 0)
filled_by n m e = ap (λ (k : ℕ). cond (eqb k 1) 255 0) e

-- byte i of the mask
pub mask_byte : (w : Bool) (x i : ℕ) → i < 16 → four w (x / 2 ^ (i / size w * 4) % 16) / 2 ^ (i % size w * 8) % 256 ≡ byte_read w x i
mask_byte true x i h =
    four_byte true (x / 2 ^ (i / 8 * 4) % 16) (i % 8) (omega arith) (omega arith)
    ∙ filled_by _ _ (bit_from x (i / 8 * 4) 4 (i % 8 / 2) (i / 2) (omega arith) (omega arith))
mask_byte false x i h =
    four_byte false (x / 2 ^ (i / 4 * 4) % 16) (i % 4) (omega arith) (omega arith)
    ∙ filled_by _ _ (bit_from x (i / 4 * 4) 4 (i % 4) i (omega arith) (omega arith))
