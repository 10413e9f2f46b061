use Rattle.std.proofs.Common.{◌≡◌, Some, ap, ◌∙◌}
use Rattle.catalog.specs.Catalog.{record_at}
use Rattle.design.specs.Keys.{netlist}
use Rattle.design.specs.kept.Keys.{drives_key, reads_key}
use Rattle.design.specs.kept.Lists.{AreChanged, without_key}
use Rattle.design.specs.kept.Shown.{design_of}
use Rattle.design.proofs.GateLemmas.{kept_gate_removed, netlist_gate_removed}
use Rattle.design.proofs.LookLemmas.{some_is}
use Rattle.design.proofs.design.Design.remove_gate.Goals as goal

pub invariant_of-result : goal.invariant_of-result
invariant_of-result c =
    let a = c.self.inside in
    let key = c.args.gate in
    let found = some_is (record_at a.gates key) (rw (← c.self.view_is) at c.requires) in
    let x = found.0 in
    let there : record_at a.gates key ≡ Some x = found.1 in
    let readers : AreChanged (reads_key x) (λ list. without_key list key) a.wires.fanout c.in_ok-gates.wires.fanout = rw there at c.in_ok-gates.ensures.readers in
    let drivers : AreChanged (drives_key x) (λ list. without_key list key) a.wires.drivers c.in_ok-gates.wires.drivers = rw there at c.in_ok-gates.ensures.drivers in
    rw c.in_ok-gates.ensures.gates (kept_gate_removed (design_of a) a.points a.wires.fanout a.wires.drivers c.in_ok-gates.wires.fanout c.in_ok-gates.wires.drivers key x c.self.invariant there readers drivers)

pub returns-clause-by_name : goal.returns-clause-by_name
returns-clause-by_name c =
    let a = c.self.inside in
    let key = c.args.gate in
    let found = some_is (record_at a.gates key) (rw (← c.self.view_is) at c.requires) in
    let there : record_at a.gates key ≡ Some found.0 = found.1 in
    rw (← c.self.view_is, there)
    (ap (λ l. netlist (record (design_of a) { gates = l })) c.in_ok-gates.ensures.gates ∙ netlist_gate_removed (design_of a) a.points a.wires.fanout a.wires.drivers key found.0 c.self.invariant there)

pub returns-clause-by_key : goal.returns-clause-by_key
returns-clause-by_key c = rw (← c.self.view_is) (ap (λ l. record (design_of c.self.inside) { gates = l }) c.in_ok-gates.ensures.gates)
