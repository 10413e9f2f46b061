use Rattle.std.proofs.Common.{◌+◌, arith}
use Rattle.vcd.proofs.UpcomingLemmas.{next_same, none_passed, passed_more}
use Rattle.vcd.proofs.upcoming.Upcoming.pass_nets.Goals as goal

pub loop-i-init : goal.loop-i-init
loop-i-init g c = none_passed c.args.waves.now.waves c.args.first c.args.t c.args.self.now c.args.left.now c.args.writer.now c.requires.moment

pub loop-i-preserved : goal.loop-i-preserved
loop-i-preserved g c =
    rw c.min-least.ensures
    (passed_more c.args.waves.now.waves c.args.first c.args.t c.loop-i.i c.args.self.now c.loop-i.self c.pass_net.new.self c.args.left.now c.loop-i.left c.pass_net.new.left c.loop-i.least
    c.args.writer.now c.loop-i.writer c.pass_net.new.writer c.loop-i.invariant (omega arith) c.pass_net.ensures.next c.pass_net.ensures.others
    c.pass_net.ensures.text)

pub pass_net-requires-clause-next : goal.pass_net-requires-clause-next
pass_net-requires-clause-next g c =
    next_same c.args.waves.now.waves c.args.t (c.args.first + c.loop-i.i) c.args.self.now c.loop-i.self c.args.left.now c.loop-i.left
    (c.loop-i.invariant.over (c.args.first + c.loop-i.i) (omega arith)) (c.requires.next c.loop-i.i (omega arith))
