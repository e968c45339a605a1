-- A block's words give the operand's bytes, two by two. Assumes nothing.
use mathlib.Core.List.{[], ◌∷◌}
use Rattle.bits.specs.Bits.{tabulate}
use Rattle.blocks.specs.Blocks.{operand_of}
use lib.ListN.{get_or}
use native.Mathlib.Omega.{arith}
use Rattle.blocks.proofs.Operands.{of_low, of_high}
use Rattle.blocks.proofs.words.U16Letter.block.Goals as goal

pub returns : goal.returns
unfolding operand_of tabulate
returns c =
    let w = c.args.part.now in
    λ t.
    of_low (get_or w 0 0) c.to_le_bytes.result (omega arith) c.to_le_bytes.ensures t ∷ of_high (get_or w 0 0) c.to_le_bytes.result (omega arith) c.to_le_bytes.ensures t ∷
    of_low (get_or w 1 0) c.to_le_bytes-2.result (omega arith) c.to_le_bytes-2.ensures t ∷ of_high (get_or w 1 0) c.to_le_bytes-2.result (omega arith) c.to_le_bytes-2.ensures t ∷
    of_low (get_or w 2 0) c.to_le_bytes-3.result (omega arith) c.to_le_bytes-3.ensures t ∷ of_high (get_or w 2 0) c.to_le_bytes-3.result (omega arith) c.to_le_bytes-3.ensures t ∷
    of_low (get_or w 3 0) c.to_le_bytes-4.result (omega arith) c.to_le_bytes-4.ensures t ∷ of_high (get_or w 3 0) c.to_le_bytes-4.result (omega arith) c.to_le_bytes-4.ensures t ∷
    of_low (get_or w 4 0) c.to_le_bytes-5.result (omega arith) c.to_le_bytes-5.ensures t ∷ of_high (get_or w 4 0) c.to_le_bytes-5.result (omega arith) c.to_le_bytes-5.ensures t ∷
    of_low (get_or w 5 0) c.to_le_bytes-6.result (omega arith) c.to_le_bytes-6.ensures t ∷ of_high (get_or w 5 0) c.to_le_bytes-6.result (omega arith) c.to_le_bytes-6.ensures t ∷
    of_low (get_or w 6 0) c.to_le_bytes-7.result (omega arith) c.to_le_bytes-7.ensures t ∷ of_high (get_or w 6 0) c.to_le_bytes-7.result (omega arith) c.to_le_bytes-7.ensures t ∷
    of_low (get_or w 7 0) c.to_le_bytes-8.result (omega arith) c.to_le_bytes-8.ensures t ∷ of_high (get_or w 7 0) c.to_le_bytes-8.result (omega arith) c.to_le_bytes-8.ensures t ∷ []
