-- Signed numbers: what the tests of `magnitude` tell of a length, and the values of elements.
-- Assumes nothing.
use Prim.Native.Nat.{ℕ, suc, ◌+◌, ◌-◌, ◌^◌, ◌≤◌, ◌<◌, min}
use mathlib.Core.Path.{◌≡◌, refl, ap}
use mathlib.Core.Bool.{Bool, true, false, cond}
use native.Mathlib.Omega.{arith}
use lib.Dec.{ltb}
use lib.IntN.{ℤ, pos, negsuc, nat_abs, ◌-ℤ◌, sub_ℕ}
use lib.Signed.{le_z, lt_z, mag}
use mir.Syntax.{Width, w64}
use mir.Val.{SFits, hbits}
use borrow.Author.Tests.{leb-true, leb-false, ltb-true, lt-ltb, le-ltb}
use Rattle.unit.specs.Operand.{bits_of, value_of}

-- ---- lengths

pub cut_above : (z : ℤ) → le_z (pos 16) z ≡ true → 16 ≡ min 16 (nat_abs z)
cut_above (pos a) h = omega (arith, leb-true 16 a h)
cut_above (negsuc a) h = cc

pub cut_below : (z : ℤ) → le_z z (negsuc 15) ≡ true → 16 ≡ min 16 (nat_abs z)
cut_below (pos a) h = cc
cut_below (negsuc a) h = omega (arith, leb-true 15 a h)

-- a length from -15 to -1: its negation is its absolute value
pub absolute : (z : ℤ) → lt_z z (pos 0) ≡ true → le_z z (negsuc 15) ≡ false → (pos 0 -ℤ z ≡ pos (nat_abs z)) × (nat_abs z < 16)
absolute (pos a) h k = absurd (omega (arith, ltb-true a 0 h))
absolute (negsuc a) h k = (ap pos (omega arith), omega (arith, leb-false 15 a k))

-- a length from 0 to 15
pub kept : (z : ℤ) → lt_z z (pos 0) ≡ false → le_z (pos 16) z ≡ false → (z ≡ pos (nat_abs z)) × (nat_abs z < 16)
kept (pos a) h k = (refl, omega (arith, leb-false 16 a k))
kept (negsuc a) h k = let e : ◌≡◌ {A = ℕ} 0 1 = cc in absurd (omega arith)

pub small : (n : ℕ) → n < 16 → SFits w64 (pos n)
small n h = record { sfits = omega arith }

-- ---- elements

mag_difference : (a b : ℕ) (t : Bool) → mag (cond t (negsuc (b - suc a)) (pos (a - b))) ≤ a + b
mag_difference a b true = omega arith
mag_difference a b false = omega arith

-- a difference of two small numbers fits
pub difference : (w : Width) (a b : ℕ) → a + suc b < 2 ^ hbits w → SFits w (sub_ℕ a (suc b))
difference w a b h = record { sfits = omega (arith, mag_difference a (suc b) (ltb a (suc b))) }

-- a signed element with its sign bit clear, and with it set
pub value_clear : (w : Bool) (x : ℕ) → x < 2 ^ (bits_of w - 1) → value_of w true x ≡ pos x
value_clear w x h = rw (lt-ltb x (2 ^ (bits_of w - 1)) h)

pub value_set : (w : Bool) (x : ℕ) → 2 ^ (bits_of w - 1) ≤ x → value_of w true x ≡ pos x -ℤ pos (2 ^ bits_of w)
value_set w x h = rw (le-ltb x (2 ^ (bits_of w - 1)) h)
