use Rattle.std.proofs.Common.{arith}
use Rattle.vcd.proofs.UpcomingLemmas.{block_left, block_passed, nothing_added, one_block, same_blocks}
use Rattle.vcd.proofs.upcoming.Upcoming.pass_block.Goals as goal

pub returns-then-self-block-clause-text : goal.returns-then-self-block-clause-text
returns-then-self-block-clause-text g c =
    nothing_added c.args.waves.now.waves c.args.t c.args.block c.args.self.now c.args.left.now c.args.writer.now c.requires.ahead c.if-self-block.true c.requires.block

pub returns-then-self-block-clause-ahead : goal.returns-then-self-block-clause-ahead
returns-then-self-block-clause-ahead g c =
    block_left c.args.waves.now.waves c.args.t c.args.block c.args.self.now c.args.left.now c.requires.ahead c.if-self-block.true c.requires.block

pub returns-clause-ahead : goal.returns-clause-ahead
returns-clause-ahead g c =
    block_passed c.args.waves.now.waves c.args.t c.args.block c.min-count.result c.args.self.now c.pass_nets.new.self c.args.left.now c.pass_nets.new.left c.pass_nets.result
    c.args.writer.now c.pass_nets.new.writer c.requires.ahead c.requires.block (omega arith) (omega arith) c.pass_nets.ensures

pub returns-then-self-block-clause-others : goal.returns-then-self-block-clause-others
returns-then-self-block-clause-others g c = same_blocks c.args.block c.args.self.now

pub returns-clause-others : goal.returns-clause-others
returns-clause-others g c = one_block c.args.self.now c.pass_nets.new.self c.args.block c.pass_nets.result c.pass_nets.ensures.blocks c.pass_nets.ensures.groups
