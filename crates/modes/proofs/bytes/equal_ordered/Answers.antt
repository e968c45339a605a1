-- `modes::bytes::equal_ordered` meets its contract. The invariant: bit j + i of `left` says that
-- the first i elements of x1 stand in x2 from j on, as far as the block goes. Where no bit below 16
-- is left, what stands is decided; the mark is never looked at. Assumes nothing.
use Prim.Native.Nat.{ℕ, ◌+◌, ◌*◌, ◌/◌, ◌%◌, ◌^◌}
use mathlib.Core.Path.{◌≡◌, ◌∙◌, ap}
use lib.Bits.{bit_and, bit_or, and_mask}
use Rattle.bits.proofs.Numbers.{sixteen_ones, past_sixteen}
use Rattle.unit.proofs.Modes.{ordered_start, ordered_turn, ordered_stop, ordered_settled, ordered_end, low_sixteen}
use native.Mathlib.Omega.{arith}
use Rattle.modes.proofs.bytes.equal_ordered.Goals as goal

pub loop-i-init : goal.loop-i-init
loop-i-init c =
    ordered_start 16 c.args.x1.now c.args.l1 c.args.x2.now c.args.l2 (omega arith) c.requires.0 c.requires.1 _ sixteen_ones

pub returns-then-left-eq0 : goal.returns-then-left-eq0
returns-then-left-eq0 c =
    ordered_stop 16 c.args.x1.now c.args.l1 c.args.x2.now c.args.l2 (omega arith) c.requires.0 c.requires.1 (c.loop-i.i + 1) _
    (ordered_turn 16 c.args.x1.now c.args.l1 c.args.x2.now c.args.l2 (omega arith) c.requires.0 c.requires.1 c.loop-i.i c.loop-i-test.true c.same.result c.args.valid _ c.loop-i.left c.same.ensures c.requires.2 past_sixteen c.loop-i.invariant)
    (omega arith)

pub returns-then-left-eq0-2 : goal.returns-then-left-eq0-2
returns-then-left-eq0-2 c =
    let left : ℕ = (bit_and c.loop-i.left (bit_or (bit_and c.same.result c.args.valid) 4294901760) * 2 ^ 1) % 2 ^ 32 in
    and_mask (left / 2 ^ (c.loop-i.i + 1)) 16
    ∙ ordered_settled 16 c.args.x1.now c.args.l1 c.args.x2.now c.args.l2 (omega arith) c.requires.0 c.requires.1 (c.loop-i.i + 1) left (omega arith)
    (ordered_turn 16 c.args.x1.now c.args.l1 c.args.x2.now c.args.l2 (omega arith) c.requires.0 c.requires.1 c.loop-i.i c.loop-i-test.true c.same.result c.args.valid _ c.loop-i.left c.same.ensures c.requires.2 past_sixteen c.loop-i.invariant)
    (low_sixteen left c.if-left-eq0-2.true)

pub loop-i-preserved : goal.loop-i-preserved
loop-i-preserved c =
    ordered_turn 16 c.args.x1.now c.args.l1 c.args.x2.now c.args.l2 (omega arith) c.requires.0 c.requires.1 c.loop-i.i c.loop-i-test.true c.same.result c.args.valid _ c.loop-i.left c.same.ensures c.requires.2 past_sixteen c.loop-i.invariant

pub returns : goal.returns
returns c =
    let e : c.args.l1 ≡ c.loop-i.i = omega arith in
    and_mask (c.loop-i.left / 2 ^ c.args.l1) 16
    ∙ ap (λ (n : ℕ). c.loop-i.left / 2 ^ n % 2 ^ 16) e
    ∙ c.loop-i.invariant
    ∙ ordered_end 16 c.args.x1.now c.args.l1 c.args.x2.now c.args.l2 (omega arith) c.requires.0 c.requires.1 c.loop-i.i c.loop-i-test.false
