use Rattle.std.proofs.Common.{sym, ◌∙◌}
use Rattle.design.specs.Keys.{netlist}
use Rattle.design.specs.kept.Keys.{gate_by_key}
use Rattle.causes.proofs.EventLemmas.{brings_all, brings_nothing}
use Rattle.causes.proofs.ending.event.Goals as goal

pub returns-then-is_same_event-clause-event : goal.returns-then-is_same_event-clause-event
returns-then-is_same_event-clause-event c =
    let d = c.args.design.now in
    brings_nothing (netlist d) d.nets c.args.t (gate_by_key d c.args.gate) c.pending_after-after.result c.pending_before-before.result c.pending_before-before.ensures c.pending_after-after.ensures.pending (sym c.is_same_event.ensures ∙ c.if-is_same_event.true)

pub returns-else-is_same_event-clause-event : goal.returns-else-is_same_event-clause-event
returns-else-is_same_event-clause-event c =
    let d = c.args.design.now in
    brings_all (netlist d) d.nets c.args.t (gate_by_key d c.args.gate) c.pending_after-after.result c.pending_before-before.result c.pending_before-before.ensures c.pending_after-after.ensures.pending (sym c.is_same_event.ensures ∙ c.if-is_same_event.false)

pub returns-else-is_same_event-clause-later : goal.returns-else-is_same_event-clause-later
returns-else-is_same_event-clause-later c = c.pending_after-after.ensures.later
