-- The places from p on are copied one place on, and then the new one is stored.
use Rattle.std.proofs.Common.{arith, rules, length-set}
use Rattle.schedule.proofs.Lists.{put_in}
use Rattle.schedule.proofs.listed.put.Goals as goal

pub returns : goal.returns
returns c =
    let a = c.args in
    record {
      long = simp length-set (search rules);
      front = rw c.copy_within.ensures.after (put_in a.places.now a.p a.n a.place (omega arith) (omega arith));
    }
