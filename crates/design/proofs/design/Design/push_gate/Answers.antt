use Rattle.std.proofs.Common.{ap, sym, ◌∙◌}
use Rattle.catalog.specs.kept.Catalog.{keys_of}
use Rattle.design.specs.Keys.{KeyedGate, netlist}
use Rattle.design.specs.kept.Shown.{design_of}
use Rattle.design.proofs.ByNameLemmas.{has_gate_is}
use Rattle.design.proofs.DesignLemmas.{cleared_is_kept}
use Rattle.design.proofs.GateLemmas.{kept_gate_added, kept_in_order, netlist_gate_added}
use Rattle.design.proofs.LookLemmas.{not_named}
use Rattle.design.proofs.design.Design.push_gate.Goals as goal

pub put_last-requires-clause-absent : goal.put_last-requires-clause-absent
put_last-requires-clause-absent c =
    let a = c.self.inside in
    not_named (λ (g : KeyedGate). g.name) a.gates c.args.gate.name (sym (has_gate_is (design_of a) c.args.gate.name) ∙ (rw (← c.self.view_is) at c.requires.absent))

pub put_last-requires-clause-readers : goal.put_last-requires-clause-readers
put_last-requires-clause-readers c =
    let a = c.self.inside in
    λ k. (kept_in_order (design_of a) a.points a.wires.fanout a.wires.drivers c.self.invariant k).0

pub put_last-requires-clause-drivers : goal.put_last-requires-clause-drivers
put_last-requires-clause-drivers c =
    let a = c.self.inside in
    λ k. (kept_in_order (design_of a) a.points a.wires.fanout a.wires.drivers c.self.invariant k).1

pub invariant_of-self : goal.invariant_of-self
invariant_of-self c =
    let a = c.self.inside in
    let g = c.args.gate in
    let key = c.in-Ok.key in
    let made = c.put_last.new in
    rw c.in-Ok.ensures.entries
    (kept_gate_added (design_of a) a.points a.wires.fanout a.wires.drivers made.wires.fanout made.wires.drivers key g (keys_of made.gates) c.self.invariant c.lawful.ensures
    (rw (← c.self.view_is) at c.requires.connected) (rw (← c.self.view_is) at c.requires.absent) (rw (← c.self.view_is) at c.requires.room)
    c.in-Ok.ensures.fresh (ap (λ l. keys_of l) c.in-Ok.ensures.entries) c.in-Ok.ensures.readers c.in-Ok.ensures.drivers)

pub invariant_of-self-in-Err : goal.invariant_of-self-in-Err
unfolding netlist
invariant_of-self-in-Err c =
    let a = c.self.inside in
    rw (c.clear.ensures.nets, c.clear.ensures.gates, c.clear.ensures.points, c.clear.ensures.wires) (cleared_is_kept (design_of a) c.self.invariant.lawful.named c.self.invariant.lawful.horizon)

pub returns-in-Ok-clause-by_name : goal.returns-in-Ok-clause-by_name
returns-in-Ok-clause-by_name c =
    let a = c.self.inside in
    rw (← c.self.view_is) (ap (λ l. netlist (record (design_of a) { gates = l })) c.in-Ok.ensures.entries ∙ netlist_gate_added (design_of a) c.args.gate c.in-Ok.key)
