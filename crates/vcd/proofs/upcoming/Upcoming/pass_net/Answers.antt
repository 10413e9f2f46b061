use Rattle.std.proofs.Common.{arith}
use Rattle.vcd.proofs.UpcomingLemmas.{next_set, one_passed}
use Rattle.vcd.proofs.WaveLemmas.{next_later}
use Rattle.vcd.proofs.upcoming.Upcoming.pass_net.Goals as goal

pub returns-then-self-place-clause-next : goal.returns-then-self-place-clause-next
returns-then-self-place-clause-next g c =
    next_later _ c.args.t _ _ _ c.requires.next (omega arith) (omega arith)

pub returns-clause-next : goal.returns-clause-next
returns-clause-next g c =
    rw c.first_time.ensures (next_set _ _ c.args.place c.pass_change-later.result c.args.self.now.times c.args.left.now (omega arith) (omega arith) c.pass_change-later.ensures.next)

pub returns-clause-others : goal.returns-clause-others
returns-clause-others g c = one_passed c.args.place c.first_time.result c.pass_change-later.result c.args.self.now c.args.left.now
