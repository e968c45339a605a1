-- What the compares of `precedes` come to. Assumes nothing.
use Prim.Native.Nat.{ℕ}
use mathlib.Core.Path.{◌≡◌, ap, ◌∙◌}
use native.Mathlib.Omega.{arith}
use lib.Dec.{ltb}
use lib.IntN.{ℤ, pos}
use lib.Signed.{lt_z}
use Rattle.std.proofs.Common.{Ordering}
use Rattle.std.specs.Ordering.{nat_cmp, int_cmp, ordering_then, is_lt}
use Rattle.std.proofs.lemmas.Grind.{common_steps}
use Rattle.unit.specs.Operand.{in_bytes}
use Rattle.orders.specs.Orders.{order}
use Rattle.entries.specs.declared.Entry.{Entry}
use Rattle.entries.specs.Entries.{precedes, decided, decided_by, name_of, unsigned}

-- ---- first by one compare, then by another

then_by : (x y : ℕ) (o : Ordering) → is_lt (ordering_then (nat_cmp x y) o) ≡ decided (ltb x y) (ltb y x) (is_lt o)
then_by x y o = grind (arith, common_steps)

then_by_sign : (z : ℤ) (o : Ordering) → is_lt (ordering_then (int_cmp z (pos 0)) o) ≡ decided (lt_z z (pos 0)) (lt_z (pos 0) z) (is_lt o)
then_by_sign z o = grind (arith, common_steps)

last_by : (x y : ℕ) → is_lt (nat_cmp x y) ≡ ltb x y
last_by x y = grind (arith, common_steps)

pub by_compares : (a b : Entry)
    → is_lt (ordering_then (nat_cmp a.minute b.minute) (ordering_then (int_cmp (order in_bytes unsigned (name_of a) (name_of b)) (pos 0)) (nat_cmp a.number b.number)))
    ≡ precedes a b
unfolding precedes
by_compares a b =
    let o = order in_bytes unsigned (name_of a) (name_of b) in
    then_by a.minute b.minute (ordering_then (int_cmp o (pos 0)) (nat_cmp a.number b.number))
    ∙ ap (decided (ltb a.minute b.minute) (ltb b.minute a.minute)) (then_by_sign o (nat_cmp a.number b.number) ∙ ap (decided_by o) (last_by a.number b.number))
