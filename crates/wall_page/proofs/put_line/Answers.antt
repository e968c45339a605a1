-- Column after column, each at its own byte.
use Rattle.std.proofs.Common.{rules, ◌∙◌, length, arith}
use Rattle.decimal.proofs.Columns.{accepts}
use Rattle.entries.specs.Entries.{name_of}
use Rattle.entries.proofs.Tests.{good_length, good_minute}
use Rattle.wall_page.proofs.Lines.{length_part, number_spaced, time_spaced, line_made}
use Rattle.wall_page.proofs.put_line.Goals as goal

pub unwrap-requires : goal.unwrap-requires
unwrap-requires c =
    rw (c.right_justified.ensures.answer ∙ accepts c.args.e.number 10 (length c.args.page.now) (omega arith) (omega arith) (omega arith) (omega (arith, c.requires.room))) (search rules)

pub put_time-requires : goal.put_time-requires
put_time-requires c =
    let a = c.args in
    let begun = number_spaced a.e a.page.now c.right_justified.new.buffer (omega arith) c.requires.room c.right_justified.ensures.buffer in
    record {
      in_day = good_minute a.e c.requires.good;
      room = omega (arith, length_part _ _ _ _ begun, c.requires.room);
    }

pub put_name-requires : goal.put_name-requires
put_name-requires c =
    let a = c.args in
    let begun = time_spaced a.e a.page.now c.right_justified.new.buffer (omega arith) c.requires.room c.right_justified.ensures.buffer c.put_time.new.page c.put_time.ensures in
    record {
      short = good_length a.e c.requires.good;
      room = omega (arith, length_part _ _ _ _ begun, c.requires.room);
    }

pub returns : goal.returns
unfolding name_of
returns c =
    let a = c.args in
    line_made a.e a.page.now c.right_justified.new.buffer (omega arith) c.requires.room c.right_justified.ensures.buffer c.put_time.new.page c.put_time.ensures c.put_name.new.page c.requires.good c.put_name.ensures
