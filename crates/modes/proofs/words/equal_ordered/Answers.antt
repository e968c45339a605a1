-- `modes::words::equal_ordered` meets its contract. The invariant: bit j of `left` says that the
-- first i elements of x1 stand in x2 from j on, as far as the block goes. Where none is left, no
-- longer part stands either. Assumes nothing.
use Prim.Native.Nat.{◌+◌}
use mathlib.Core.Path.{◌∙◌}
use Rattle.bits.proofs.Numbers.{eight_ones, past_eight}
use Rattle.unit.proofs.Modes.{ordered_start, ordered_more, ordered_none, ordered_end}
use native.Mathlib.Omega.{arith}
use Rattle.modes.proofs.words.equal_ordered.Goals as goal

pub loop-i-init : goal.loop-i-init
loop-i-init c =
    ordered_start 8 c.args.x1.now c.args.l1 c.args.x2.now c.args.l2 (omega arith) c.requires.0 c.requires.1 _ eight_ones

pub returns-then-left-i : goal.returns-then-left-i
returns-then-left-i c =
    ordered_none 8 c.args.x1.now c.args.l1 c.args.x2.now c.args.l2 (omega arith) c.requires.0 c.requires.1 (c.loop-i.i + 1) _
    (ordered_more 8 c.args.x1.now c.args.l1 c.args.x2.now c.args.l2 (omega arith) c.requires.0 c.requires.1 c.loop-i.i c.loop-i-test.true c.same.result c.args.valid _ c.loop-i.left c.same.ensures c.requires.2 past_eight c.loop-i.invariant)
    (omega arith)

pub loop-i-preserved : goal.loop-i-preserved
loop-i-preserved c =
    ordered_more 8 c.args.x1.now c.args.l1 c.args.x2.now c.args.l2 (omega arith) c.requires.0 c.requires.1 c.loop-i.i c.loop-i-test.true c.same.result c.args.valid _ c.loop-i.left c.same.ensures c.requires.2 past_eight c.loop-i.invariant

pub returns : goal.returns
returns c =
    c.loop-i.invariant
    ∙ ordered_end 8 c.args.x1.now c.args.l1 c.args.x2.now c.args.l2 (omega arith) c.requires.0 c.requires.1 c.loop-i.i c.loop-i-test.false
