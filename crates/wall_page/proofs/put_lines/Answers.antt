-- Each line goes on at the byte at which the lines before it end.
use Rattle.std.proofs.Common.{arith}
use Rattle.wall_page.proofs.Lines.{next_line, no_line}
use Rattle.wall_page.proofs.put_lines.Goals as goal

pub loop-r-init : goal.loop-r-init
loop-r-init c = no_line c.args.entries.now c.args.page.now

pub loop-r-preserved : goal.loop-r-preserved
loop-r-preserved c =
    let l = c.loop-r in
    next_line c.args.entries.now c.args.page.now l.page c.put_line.new.page l.r l.invariant c.loop-r-test.true (omega (arith, c.requires.room)) c.put_line.ensures
