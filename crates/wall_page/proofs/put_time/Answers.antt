-- `wall_page::put_time` meets its contract: five stores at the front, each of a digit below ten or
-- of the colon. Assumes nothing.
use Prim.Native.Nat.{◌+◌, ◌/◌, ◌%◌}
use Rattle.wall_page.specs.Pages.{time_of}
use Rattle.wall_page.proofs.Columns.{five_put}
use Rattle.wall_page.proofs.put_time.Goals as goal

pub returns : goal.returns
unfolding time_of
returns c =
    let m = c.args.minute in
    five_put c.args.page.now (48 + m / 60 / 10) (48 + m / 60 % 10) 58 (48 + m % 60 / 10) (48 + m % 60 % 10) c.requires.room
