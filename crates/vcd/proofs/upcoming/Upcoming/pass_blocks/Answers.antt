use Rattle.std.proofs.Common.{◌+◌, arith}
use Rattle.vcd.proofs.UpcomingLemmas.{blocks_more, no_block_passed}
use Rattle.vcd.proofs.upcoming.Upcoming.pass_blocks.Goals as goal

pub loop-i-init : goal.loop-i-init
loop-i-init g c = no_block_passed c.args.waves.now.waves c.args.first c.args.t c.args.self.now c.args.left.now c.args.writer.now c.requires.moment c.requires.ahead

pub pass_block-requires-clause-ahead : goal.pass_block-requires-clause-ahead
pass_block-requires-clause-ahead g c = c.loop-i.invariant.blocks

pub pass_block-requires-clause-block : goal.pass_block-requires-clause-block
pass_block-requires-clause-block g c = c.requires.within c.loop-i.i (omega arith)

pub loop-i-preserved : goal.loop-i-preserved
loop-i-preserved g c =
    rw c.min-least.ensures
    (blocks_more c.args.waves.now.waves c.args.first c.args.t c.loop-i.i c.args.self.now c.loop-i.self c.pass_block.new.self c.loop-i.left c.pass_block.new.left c.loop-i.least
    c.args.writer.now c.loop-i.writer c.pass_block.new.writer c.loop-i.invariant (c.requires.within c.loop-i.i (omega arith)) c.pass_block.ensures.ahead c.pass_block.ensures.others
    c.pass_block.ensures.text)
