use Rattle.std.proofs.Common.{◌≡◌, Some, IsTrue, length, List, ℕ, map, ap, refl, ◌∙◌}
use Rattle.fourstate.specs.Gates.{takes_inputs}
use Rattle.catalog.specs.Catalog.{record_at}
use Rattle.catalog.specs.kept.Catalog.{keys_of, with_record}
use Rattle.design.specs.Keys.{KeyedGate, connection_in, name_of, netlist}
use Rattle.design.specs.kept.Keys.{drives_key, reads_key}
use Rattle.design.specs.kept.Lists.{AreChanged, with_key_in, without_key}
use Rattle.design.specs.Netlist.{GateEntry}
use Rattle.design.specs.kept.Records.{gate_with_wiring}
use Rattle.design.specs.kept.Shown.{design_of}
use Rattle.design.proofs.GateLemmas.{kept_gate_rewired, kept_in_order, netlist_gate_put}
use Rattle.design.proofs.LookLemmas.{some_of}
use Rattle.design.proofs.design.Design.rewire.Goals as goal

pub with_wiring_at-requires-clause-readers : goal.with_wiring_at-requires-clause-readers
with_wiring_at-requires-clause-readers c =
    let a = c.self.inside in
    λ k. (kept_in_order (design_of a) a.points a.wires.fanout a.wires.drivers c.self.invariant k).0

pub with_wiring_at-requires-clause-drivers : goal.with_wiring_at-requires-clause-drivers
with_wiring_at-requires-clause-drivers c =
    let a = c.self.inside in
    λ k. (kept_in_order (design_of a) a.points a.wires.fanout a.wires.drivers c.self.invariant k).1

pub invariant_of-result : goal.invariant_of-result
invariant_of-result c =
    let a = c.self.inside in
    let key = c.args.gate in
    let output = c.args.output in
    let inputs = c.args.inputs.items in
    let found = some_of (record_at a.gates key) (λ (g : KeyedGate). IsTrue (takes_inputs g.kind (length inputs))) (rw (← c.self.view_is) at c.requires.fit) in
    let x = found.0 in
    let there : record_at a.gates key ≡ Some x = found.1 in
    let made : c.in_ok-gates.gates ≡ with_record a.gates key (gate_with_wiring x output inputs) = rw there at c.in_ok-gates.ensures.gates in
    let readers : (less : List (List ℕ)) × AreChanged (reads_key x) (λ list. without_key list key) a.wires.fanout less × AreChanged (reads_key (gate_with_wiring x output inputs)) (with_key_in (keys_of a.gates) key) less c.in_ok-gates.wires.fanout = rw there at c.in_ok-gates.ensures.readers in
    let drivers : (less : List (List ℕ)) × AreChanged (drives_key x) (λ list. without_key list key) a.wires.drivers less × AreChanged (drives_key (gate_with_wiring x output inputs)) (with_key_in (keys_of a.gates) key) less c.in_ok-gates.wires.drivers = rw there at c.in_ok-gates.ensures.drivers in
    rw made (kept_gate_rewired (design_of a) a.points a.wires.fanout a.wires.drivers c.in_ok-gates.wires.fanout c.in_ok-gates.wires.drivers key x output inputs c.self.invariant there found.2 (rw (← c.self.view_is) at c.requires.output) (rw (← c.self.view_is) at c.requires.inputs) readers drivers)

pub returns-clause-by_key : goal.returns-clause-by_key
returns-clause-by_key c =
    let a = c.self.inside in
    let key = c.args.gate in
    let found = some_of (record_at a.gates key) (λ (g : KeyedGate). IsTrue (takes_inputs g.kind (length c.args.inputs.items))) (rw (← c.self.view_is) at c.requires.fit) in
    let there : record_at a.gates key ≡ Some found.0 = found.1 in
    let made : c.in_ok-gates.gates ≡ with_record a.gates key (gate_with_wiring found.0 c.args.output c.args.inputs.items) = rw there at c.in_ok-gates.ensures.gates in
    rw (← c.self.view_is, there) (ap (λ l. record (design_of a) { gates = l }) made)

pub returns-clause-by_name : goal.returns-clause-by_name
returns-clause-by_name c =
    let a = c.self.inside in
    let key = c.args.gate in
    let found = some_of (record_at a.gates key) (λ (g : KeyedGate). IsTrue (takes_inputs g.kind (length c.args.inputs.items))) (rw (← c.self.view_is) at c.requires.fit) in
    let x = found.0 in
    let there : record_at a.gates key ≡ Some x = found.1 in
    let y = gate_with_wiring x c.args.output c.args.inputs.items in
    let made : c.in_ok-gates.gates ≡ with_record a.gates key y = rw there at c.in_ok-gates.ensures.gates in
    rw (← c.self.view_is, there)
    (ap (λ l. netlist (record (design_of a) { gates = l })) made
    ∙ netlist_gate_put (design_of a) a.points a.wires.fanout a.wires.drivers key x y (λ (g : GateEntry). record g { output = name_of a.nets c.args.output; inputs = map (connection_in a.nets) c.args.inputs.items }) c.self.invariant there refl)
