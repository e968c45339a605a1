-- A block's reads are the operand's bytes, one by one. Assumes nothing.
use mathlib.Core.Path.{refl}
use Rattle.bits.specs.Bits.{tabulate}
use Rattle.blocks.specs.Blocks.{operand_of}
use Rattle.blocks.proofs.bytes.U8Letter.block.Goals as goal

pub returns : goal.returns
unfolding operand_of tabulate
returns c = refl
