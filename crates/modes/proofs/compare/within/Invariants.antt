-- The first j elements of the row are marked, and the others are as they were.
use Rattle.std.proofs.Common.{ℕ, ◌≡◌, ◌≤◌, cond, ◌-◌, ◌^◌, length, take, get_or}
use Rattle.bits.specs.Bits.{tabulate}
use Rattle.unit.specs.Operand.{bits_of, value_of}
use Rattle.unit.specs.Modes.{between}
use Rattle.modes.proofs.compare.within.Given as goal

abbrev pub invariant-loop-j : goal.invariant-loop-j
invariant-loop-j g l =
    (length l.row ≡ g.row.N)
    × (take l.j (g.T.Element.numbers l.row)
    ≡ tabulate l.j (λ n. cond (between (value_of g.T.Element.words l.signed) (g.T.Element.number l.low) (g.T.Element.number l.high) (get_or (g.T.Element.numbers l.x) n 0)) (2 ^ bits_of g.T.Element.words - 1) (get_or (g.T.Element.numbers l.initial.row) n 0)))
    × ((n : ℕ) → l.j ≤ n → get_or (g.T.Element.numbers l.row) n 0 ≡ get_or (g.T.Element.numbers l.initial.row) n 0)
