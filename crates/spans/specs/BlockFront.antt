-- The front of one block: the compare of a leading run, for the contracts of private functions. A
-- reader of the public calls needs none of it.
use Rattle.std.specs.Prelude.{ℕ, ◌+◌, ◌-◌, min, Bool, true, false, List, length, take, drop, pos}
use Rattle.unit.specs.Operand.{count, value_of}
use Rattle.unit.specs.Calls.{PCMPESTRI}
use Rattle.blocks.specs.Blocks.{operand_of}
use Rattle.spans.specs.declared.Members.{Members}
use Rattle.spans.specs.declared.Members.TheVariants.{Listed, Bounded}
use Rattle.spans.specs.Spans.{in_set, in_ranges}

-- x belongs to the list, read as a set or as ranges
abbrev pub belongs : Bool → Members → List ℕ → ℕ → Bool
belongs words Listed list x = in_set list x
belongs words (Bounded signed) list x = in_ranges (value_of words signed) list x

-- The control in bytes: equal any, or ranges, signed or not; negated, least. The index is then the
-- first element that does not belong.
abbrev pub span_control : Members → ℕ
span_control Listed = 0x10
span_control (Bounded false) = 0x14
span_control (Bounded true) = 0x16

-- the block of a text that begins at i
abbrev pub block : Bool → ℕ → List ℕ → List ℕ
block words i text = take (min (i + count words) (length text) - i) (drop i text)

-- the index that the unit gives for an operand of length l and that block
unfoldable pub front_index : Bool → List ℕ → ℕ → List ℕ → ℕ → ℕ → ℕ
front_index words o l text i control =
    (PCMPESTRI o (pos l) (operand_of words (block words i text)) (pos (length (block words i text)))
    control).index
