-- `modes::compare::within` meets its contract. The invariant: the first j elements of the row are
-- marked. Assumes nothing.
use Rattle.std.proofs.Common.{◌≡◌, ◌∙◌, refl, sym, ap, ℕ, ◌-◌, ◌^◌, cond, get_or, arith}
use Rattle.bits.specs.Bits.{tabulate}
use Rattle.bits.proofs.Lists.{fill}
use Rattle.unit.specs.Operand.{bits_of, value_of}
use Rattle.unit.specs.Modes.{between}
use Rattle.std.proofs.lemmas.List.{length-set}
use lib.Seq.{get_or-set_other}
use Rattle.modes.proofs.compare.within.Goals as goal
use Rattle.modes.proofs.compare.within.Goals.{then-lies, else-lies}

pub loop-j-init : goal.loop-j-init
unfolding tabulate
loop-j-init g c = (c.told-row, refl, λ n h. refl)

pub loop-j-preserved : goal.loop-j-preserved
loop-j-preserved g c =
    let a = c.args in
    let numbers = g.T.Element.numbers in
    let number = g.T.Element.number in
    let reads = g.T.Element.reads in
    let j = c.loop-j.j in
    let row = c.loop-j.row in
    let y = c.index-x-j in
    let v = c.if-lies.mark in
    let mark = λ (n : ℕ). cond (between (value_of g.T.Element.words a.signed) (number a.low) (number a.high) (get_or (numbers a.x.now) n 0)) (2 ^ bits_of g.T.Element.words - 1) (get_or (numbers a.row.now) n 0) in
    let read = reads.at a.x.now j y.result (omega (arith, c.told-x)) y.is in
    let made : number v ≡ mark j =
    elim c.if-lies.branch [
      | then-lies w ↦
          ap number w.mark-is ∙ w.full-mark.ensures
          ∙ rw (read, y.is, sym c.lies.ensures ∙ w.if-lies.true) refl
      | else-lies w ↦
          ap number (w.mark-is ∙ sym w.index-row-j.is)
          ∙ sym (reads.at row j w.index-row-j.result (omega (arith, c.loop-j.invariant.0)) w.index-row-j.is)
          ∙ c.loop-j.invariant.2 j (omega arith)
          ∙ rw (read, y.is, sym c.lies.ensures ∙ w.if-lies.false) refl
    ] in (
      length-set row j v ∙ c.loop-j.invariant.0,
      rw reads.stored
          (fill (numbers row) j mark (number v) (rw reads.long (omega (arith, c.loop-j.invariant.0))) c.loop-j.invariant.1 made),
      λ n h. rw reads.stored (get_or-set_other (numbers row) j n (number v) 0 (λ e. omega (arith, e)) ∙ c.loop-j.invariant.2 n (omega arith)),
    )
