-- What was cleared is gathered in the order of the day.
use Rattle.std.proofs.Common.{sym, ◌∙◌}
use Rattle.schedule.proofs.Refused.{answer_accepted}
use Rattle.schedule.proofs.day_of.Goals as goal

pub returns : goal.returns
returns c =
    let a = c.args in
    answer_accepted a.entries a.count c.gathered.result c.clear.new.entries (sym c.accept.ensures ∙ c.in_ok-accept.was) c.clear.ensures c.gathered.ensures
