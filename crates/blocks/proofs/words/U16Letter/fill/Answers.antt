-- A word more stores its two bytes. Assumes nothing.
use mathlib.Core.Path.{◌∙◌, ap}
use mathlib.Core.List.{List}
use Prim.Native.Nat.{ℕ, ◌*◌, ◌+◌}
use lib.ListN.{get_or, set}
use native.Mathlib.Omega.{arith}
use Rattle.blocks.proofs.Operands.{of_low, of_high, stores_more}
use Rattle.blocks.proofs.words.U16Letter.fill.Goals as goal

pub loop-i-preserved : goal.loop-i-preserved
loop-i-preserved c =
    let i = c.loop-i.i in
    let b = c.to_le_bytes in
    let n = get_or c.args.part.now i 0 in
    ap (λ (a : List ℕ). set (set a (2 * i) (get_or b.result 0 0)) (2 * i + 1) (get_or b.result 1 0)) c.loop-i.invariant
    ∙ stores_more c.args.part.now c.args.operand.now i _ _ (of_low n b.result (omega arith) b.ensures) (of_high n b.result (omega arith) b.ensures)
