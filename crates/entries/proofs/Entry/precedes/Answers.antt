-- The three compares, one after the other, are the order.
use Rattle.std.proofs.Common.{rules}
use Rattle.entries.proofs.Compares.{by_compares}
use Rattle.entries.proofs.Entry.precedes.Goals as goal

pub returns : goal.returns
returns c = rw (← by_compares c.args.self c.args.other) (search rules)
