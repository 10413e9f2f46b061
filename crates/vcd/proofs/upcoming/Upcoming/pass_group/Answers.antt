use Rattle.std.proofs.Common.{arith}
use Rattle.vcd.proofs.UpcomingLemmas.{group_left, group_passed, no_lines_of_group}
use Rattle.vcd.proofs.upcoming.Upcoming.pass_group.Goals as goal

pub returns-then-self-group-clause-text : goal.returns-then-self-group-clause-text
returns-then-self-group-clause-text g c =
    no_lines_of_group c.args.waves.now.waves c.args.t c.args.group c.args.self.now c.args.left.now c.args.writer.now c.requires.ahead c.if-self-group.true c.requires.group

pub returns-then-self-group-clause-ahead : goal.returns-then-self-group-clause-ahead
returns-then-self-group-clause-ahead g c =
    group_left c.args.waves.now.waves c.args.t c.args.group c.args.self.now c.args.left.now c.requires.ahead c.if-self-group.true c.requires.group

pub returns-clause-ahead : goal.returns-clause-ahead
returns-clause-ahead g c =
    group_passed c.args.waves.now.waves c.args.t c.args.group c.min-count.result c.args.self.now c.pass_blocks.new.self c.args.left.now c.pass_blocks.new.left c.pass_blocks.result
    c.args.writer.now c.pass_blocks.new.writer c.requires.ahead c.requires.group (omega arith) (omega arith) (λ block from below. omega arith) c.pass_blocks.ensures
