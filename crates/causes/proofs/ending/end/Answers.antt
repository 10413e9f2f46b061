use Rattle.std.proofs.Common.{◌<◌, ◌≤◌}
use Rattle.design.specs.Keys.{netlist}
use Rattle.design.specs.kept.Keys.{gate_by_key}
use Rattle.causes.proofs.EventLemmas.{late_end, lost_end, no_end, one_end}
use Rattle.causes.proofs.ending.end.Goals as goal

pub returns-in_default-clause-end : goal.returns-in_default-clause-end
returns-in_default-clause-end c =
    let d = c.args.design.now in
    no_end (netlist d) d.nets c.args.t (gate_by_key d c.args.gate) c.in_default.ensures.event

pub returns-then-event-horizon-clause-end : goal.returns-then-event-horizon-clause-end
returns-then-event-horizon-clause-end c =
    let d = c.args.design.now in
    let late : (netlist d).horizon < c.in-Some.event.1 = rw c.horizon.ensures.horizon at c.if-event-horizon.true in
    late_end (netlist d) d.nets c.args.t c.in-Some.event (gate_by_key d c.args.gate) c.in-Some.ensures.event late

pub returns-then-takes_effect-clause-end : goal.returns-then-takes_effect-clause-end
returns-then-takes_effect-clause-end c =
    let d = c.args.design.now in
    let within : c.in-Some.event.1 ≤ (netlist d).horizon = rw c.horizon.ensures.horizon at c.if-event-horizon.false in
    one_end (netlist d) d.nets c.args.t c.in-Some.event (gate_by_key d c.args.gate) c.takes_effect.result c.in-Some.ensures.event c.takes_effect.ensures c.if-takes_effect.true c.in-Some.ensures.later within

pub returns-else-takes_effect-clause-end : goal.returns-else-takes_effect-clause-end
returns-else-takes_effect-clause-end c =
    let d = c.args.design.now in
    lost_end (netlist d) d.nets c.args.t c.in-Some.event (gate_by_key d c.args.gate) c.takes_effect.result c.in-Some.ensures.event c.takes_effect.ensures c.if-takes_effect.false
