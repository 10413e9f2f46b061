use Rattle.std.proofs.Common.{◌≤◌, length, arith}
use Rattle.design.proofs.DesignLemmas.{net_count_is}
use Rattle.resim.proofs.Cutting.{all_cut}
use Rattle.resim.proofs.cut.cut_waves.Goals as goal

pub returns-clause-waves : goal.returns-clause-waves
returns-clause-waves c =
    let d = c.args.design.now in
    let count = net_count_is d in
    let counted = c.net_count-place-end.ensures in
    let past = c.loop-place-test.false in
    let whole = c.loop-place.auto.place-end in
    let all : length d.nets ≤ c.loop-place.place = omega arith in
    all_cut c.args.horizon d.nets c.args.run.now.waves c.loop-place.short.waves c.loop-place.place all c.loop-place.invariant.waves
