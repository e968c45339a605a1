-- `modes::compare::ranges` meets its contract. The invariant: the row marks the elements of x2 that
-- lie in one of the first i ranges. Assumes nothing.
use Rattle.std.proofs.Common.{◌≡◌, ◌∙◌, ◌+◌, ◌*◌, ◌-◌, ◌^◌, ◌<◌, Bool, true, false, arith}
use lib.ListN.{replicate}
use Rattle.unit.specs.Operand.{bits_of, value_of}
use Rattle.unit.proofs.Modes.{row_start, row_more, ranges_made}
use Rattle.modes.proofs.Widths.{most, zeros}
use Rattle.modes.proofs.compare.ranges.Goals as goal

some_bit : (w : Bool) → 0 < 2 ^ bits_of w - 1
some_bit true = omega arith
some_bit false = omega arith

pub loop-i-init : goal.loop-i-init
loop-i-init g c =
    let e = g.T.Element in
    row_start g.row.N (2 ^ bits_of e.words - 1) (value_of e.words c.args.signed) (e.numbers c.args.x1.now) (e.numbers c.args.x2.now) (e.numbers (replicate g.row.N c.zero-row.result))
    (zeros e.numbers e.number e.reads g.row.N c.zero-row.result c.zero-row.ensures)

pub loop-i-preserved : goal.loop-i-preserved
loop-i-preserved g c =
    let e = g.T.Element in
    let x₁ = c.args.x1.now in
    let a = c.index-x1-at in
    let b = c.index-x1-at-in-loop-i in
    let low = e.reads.at x₁ (2 * c.loop-i.i) a.result (omega (arith, c.told-x1)) a.is in
    let high = e.reads.at x₁ (2 * c.loop-i.i + 1) b.result (omega (arith, c.told-x1)) b.is in
    row_more g.row.N (2 ^ bits_of e.words - 1) (value_of e.words c.args.signed) (e.numbers x₁) (e.numbers c.args.x2.now) c.loop-i.i (e.numbers c.loop-i.row) (e.numbers c.within.new.row) c.loop-i.invariant (rw (low, high, a.is, b.is) c.within.ensures)

pub returns : goal.returns
returns g c =
    let e = g.T.Element in
    let few = most e.words g.row.N (g.met.T.Block.sized ∙ e.counted) in
    let n : c.loop-i.i ≡ c.args.n = omega arith in
    ranges_made g.row.N (2 ^ bits_of e.words - 1) (value_of e.words c.args.signed) (e.numbers c.args.x1.now) (e.numbers c.args.x2.now) c.args.n c.args.l2 c.marked.result c.first.result (e.numbers c.loop-i.row) (some_bit e.words) few c.requires.1 (rw n at c.loop-i.invariant) c.marked.ensures c.first.ensures
