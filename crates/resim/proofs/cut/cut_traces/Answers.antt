use Rattle.std.proofs.Common.{◌≤◌, length, arith}
use Rattle.design.proofs.DesignLemmas.{gate_count_is}
use Rattle.resim.proofs.Cutting.{all_cut}
use Rattle.resim.proofs.cut.cut_traces.Goals as goal

pub returns-clause-traces : goal.returns-clause-traces
returns-clause-traces c =
    let d = c.args.design.now in
    let count = gate_count_is d in
    let counted = c.gate_count-place-end.ensures in
    let past = c.loop-place-test.false in
    let whole = c.loop-place.auto.place-end in
    let all : length d.gates ≤ c.loop-place.place = omega arith in
    all_cut c.args.horizon d.gates c.args.run.now.traces c.loop-place.short.traces c.loop-place.place all c.loop-place.invariant.traces
