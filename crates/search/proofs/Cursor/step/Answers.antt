-- The empty needle, the block at the text's end, or what the scan comes to. Assumes nothing.
use Prim.Native.Nat.{ℕ, ◌+◌, ◌-◌, ◌*◌}
use mathlib.Core.Path.{◌≡◌, sym, ap, ◌∙◌}
use mathlib.Core.Bool.{false}
use lib.ListN.{length}
use borrow.Author.Tests.{eqb-true}
use native.Mathlib.Omega.{arith}
use Rattle.unit.specs.Operand.{count}
use Rattle.unit.proofs.Unit.{count_most, count_some}
use Rattle.search.specs.Cursors.{moved}
use Rattle.search.specs.Moves.{missed_by}
use Rattle.search.proofs.Scans.{Scanning, blocks_few, blocks_in, index_below, led_over, led_place, led_zero, past_is, past_ready, past_small, scanning}
use Rattle.search.proofs.Turns.{Ending, ending, led_empty, short_found, short_missed}
use Rattle.search.proofs.Cursor.step.Given as given
use Rattle.search.proofs.Cursor.step.Goals as goal
use Rattle.search.proofs.Cursor.step.Goals.{After-moved-at, After-ordered_index-k, After-scan-s}

-- ---- what several goals share

-- the block at the text's end
end_block : (g : given.Over) (c : After-ordered_index-k g)
    → Ending g.T.Element.words (g.T.Element.numbers c.args.text.now) (g.T.Element.numbers c.args.needle.now) c.args.self (length c.args.text.now - (length c.args.needle.now - c.args.l) - c.args.self.position) c.ordered_index-k.result
end_block g c =
    ending g.T.Element.reads c.args.text.now c.args.needle.now c.requires (sym c.is_empty.ensures ∙ c.if-is_empty.false) (c.COUNT-b.ensures ∙ g.T.Element.counted) c.if-e-p.true c.padded.ensures c.ordered_index-k.ensures

-- the scan
scan_made : (g : given.Over) (c : After-scan-s g)
    → Scanning g.T.Element.words (g.T.Element.numbers c.args.text.now) (g.T.Element.numbers c.args.needle.now) c.args.first.now c.args.l c.args.self (length c.args.text.now - (length c.args.needle.now - c.args.l)) c.scan-s.result
scan_made g c =
    scanning g.T.Element.reads c.args.text.now c.args.needle.now c.requires (sym c.is_empty.ensures ∙ c.if-is_empty.false) (c.COUNT-b.ensures ∙ g.T.Element.counted) c.if-e-p.false c.scan-s.ensures

-- the cursor past its blocks
past_blocks : (g : given.Over) (c : After-moved-at g)
    → Scanning g.T.Element.words (g.T.Element.numbers c.args.text.now) (g.T.Element.numbers c.args.needle.now) c.args.first.now c.args.l c.args.self (length c.args.text.now - (length c.args.needle.now - c.args.l)) c.scan-s.result
    → c.moved-at.result ≡ moved c.args.self (c.args.self.position + count g.T.Element.words * c.scan-s.result.blocks) (c.args.self.compares + c.scan-s.result.blocks) false
past_blocks g c scan = past_is scan _ _ (c.COUNT-b.ensures ∙ g.T.Element.counted) c.moved-at.ensures

-- ---- the goals

-- the empty needle
pub returns-then-is_empty : goal.returns-then-is_empty
returns-then-is_empty g c =
    let a = c.args in
    let r = g.T.Element.reads in
    let none : length a.needle.now ≡ 0 = eqb-true _ _ (sym c.is_empty.ensures ∙ c.if-is_empty.true) in
    rw c.found.ensures (led_empty g.T.Element.words (g.T.Element.numbers a.text.now) (g.T.Element.numbers a.needle.now) a.self (r.long a.needle.now ∙ none) (omega (arith, c.requires.room)))

-- the block at the text's end
pub returns-then-k-eq0 : goal.returns-then-k-eq0
returns-then-k-eq0 g c =
    rw c.found-then-k-eq0.ensures (short_found (end_block g (goal.at.returns-then-k-eq0 g c).After-ordered_index-k) c.if-k-eq0.true)

pub returns-then-e-p : goal.returns-then-e-p
returns-then-e-p g c =
    rw (c.missed.ensures ∙ ap (λ (n : ℕ). missed_by c.args.self n (c.args.self.compares + 1)) c.min-by.ensures)
    (short_missed (end_block g (goal.at.returns-then-e-p g c).After-ordered_index-k) (λ h. omega (arith, c.if-k-eq0.false)))

-- the cursor past the scan's blocks
pub overflow_mul-b : goal.overflow_mul-b
overflow_mul-b g c =
    let scan = scan_made g (goal.at.overflow_mul-b g c).After-scan-s in
    omega (arith, blocks_in scan _ (c.COUNT-b.ensures ∙ g.T.Element.counted), c.requires.searchable.small)

pub overflow_add-self-2 : goal.overflow_add-self-2
overflow_add-self-2 g c =
    let scan = scan_made g (goal.at.overflow_add-self-2 g c).After-scan-s in
    omega (arith, blocks_in scan _ (c.COUNT-b.ensures ∙ g.T.Element.counted), c.requires.searchable.small)

pub overflow_add-self-3 : goal.overflow_add-self-3
overflow_add-self-3 g c =
    let scan = scan_made g (goal.at.overflow_add-self-3 g c).After-scan-s in
    omega (arith, blocks_few scan, c.requires.searchable.small, c.requires.few)

-- index 0
pub rest-requires : goal.rest-requires
rest-requires g c =
    let scan = scan_made g (goal.at.rest-requires g c).After-scan-s in
    past_ready scan _ (past_blocks g (goal.at.rest-requires g c).After-moved-at scan) (λ h. omega (arith, c.if-s-eq0.true, count_some g.T.Element.words))

pub returns-then-s-eq0 : goal.returns-then-s-eq0
returns-then-s-eq0 g c =
    let scan = scan_made g (goal.at.returns-then-s-eq0 g c).After-scan-s in
    led_zero scan _ (past_blocks g (goal.at.returns-then-s-eq0 g c).After-moved-at scan) c.rest.result c.if-s-eq0.true c.rest.ensures

-- no block is left
pub missed-requires-then-s-b : goal.missed-requires-then-s-b
missed-requires-then-s-b g c =
    let scan = scan_made g (goal.at.missed-requires-then-s-b g c).After-scan-s in
    (past_small scan _ (past_blocks g (goal.at.missed-requires-then-s-b g c).After-moved-at scan), omega arith)

pub returns-then-s-b : goal.returns-then-s-b
returns-then-s-b g c =
    let scan = scan_made g (goal.at.returns-then-s-b g c).After-scan-s in
    led_over scan _ (past_blocks g (goal.at.returns-then-s-b g c).After-moved-at scan) c.missed-then-s-b.result (c.if-s-b.true ∙ c.COUNT-b.ensures ∙ g.T.Element.counted) c.missed-then-s-b.ensures

-- an index from 1 to b - 1
pub missed-requires-2 : goal.missed-requires-2
missed-requires-2 g c =
    let scan = scan_made g (goal.at.missed-requires-2 g c).After-scan-s in
    let below = index_below scan _ (past_blocks g (goal.at.missed-requires-2 g c).After-moved-at scan) (λ h. c.if-s-b.false (h ∙ sym (c.COUNT-b.ensures ∙ g.T.Element.counted))) in
    (past_small scan _ (past_blocks g (goal.at.missed-requires-2 g c).After-moved-at scan), omega (arith, below, count_most g.T.Element.words))

pub returns : goal.returns
returns g c =
    let scan = scan_made g (goal.at.returns g c).After-scan-s in
    led_place scan _ (past_blocks g (goal.at.returns g c).After-moved-at scan) (λ h. c.if-s-b.false (h ∙ sym (c.COUNT-b.ensures ∙ g.T.Element.counted))) c.missed-2.result (omega (arith, c.if-s-eq0.false)) c.missed-2.ensures
