-- All 32 bytes are cleared.
use Rattle.std.proofs.Common.{ℕ, get_or, cond, ltb, arith}
use Rattle.entries.proofs.Fills.{table_by_each}
use Rattle.entries.specs.Entries.{cleared_name}
use Rattle.entries.proofs.cleared_name.Goals as goal

pub returns : goal.returns
unfolding cleared_name
returns c =
    let a = c.args in
    table_by_each (λ (k : ℕ). cond (ltb k a.length) (get_or a.name k 0) 0) c.loop-i.cleared 32 0 c.loop-i.invariant.0 (λ k u. c.loop-i.invariant.1 k (omega arith))
