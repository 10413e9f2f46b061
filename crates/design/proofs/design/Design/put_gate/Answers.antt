use Rattle.std.proofs.Common.{◌≡◌, Some, is_some, ap, ◌∙◌}
use Rattle.catalog.specs.Catalog.{record_at}
use Rattle.design.specs.Keys.{KeyedGate, netlist}
use Rattle.design.specs.kept.Records.{IsInPlaceOf}
use Rattle.design.specs.kept.Shown.{design_of}
use Rattle.design.proofs.GateLemmas.{kept_gate_put, netlist_gate_put}
use Rattle.design.proofs.LookLemmas.{some_of}
use Rattle.design.proofs.design.Design.put_gate.Goals as goal

pub replace-requires-clause-there : goal.replace-requires-clause-there
replace-requires-clause-there c =
    let a = c.self.inside in
    let found = some_of (record_at a.gates c.gate.inside.number) (λ (g : KeyedGate). IsInPlaceOf g c.args.new) (rw (← c.self.view_is, ← c.gate.view_is) at c.requires) in
    ap (λ o. is_some o) found.1

pub replace-requires-clause-name : goal.replace-requires-clause-name
replace-requires-clause-name c =
    let a = c.self.inside in
    let found = some_of (record_at a.gates c.gate.inside.number) (λ (g : KeyedGate). IsInPlaceOf g c.args.new) (rw (← c.self.view_is, ← c.gate.view_is) at c.requires) in
    rw found.1 found.2.name

pub invariant_of-result : goal.invariant_of-result
invariant_of-result c =
    let a = c.self.inside in
    let key = c.gate.inside.number in
    let found = some_of (record_at a.gates key) (λ (g : KeyedGate). IsInPlaceOf g c.args.new) (rw (← c.self.view_is, ← c.gate.view_is) at c.requires) in
    rw c.in_ok-gates.ensures (kept_gate_put (design_of a) a.points a.wires.fanout a.wires.drivers key found.0 c.args.new c.self.invariant found.1 found.2 c.lawful.ensures)

pub returns-clause-by_name : goal.returns-clause-by_name
returns-clause-by_name c =
    let a = c.self.inside in
    let key = c.gate.inside.number in
    let found = some_of (record_at a.gates key) (λ (g : KeyedGate). IsInPlaceOf g c.args.new) (rw (← c.self.view_is, ← c.gate.view_is) at c.requires) in
    let there : record_at a.gates key ≡ Some found.0 = found.1 in
    rw (← c.self.view_is, ← c.gate.view_is, there)
    (λ change changed. ap (λ l. netlist (record (design_of a) { gates = l })) c.in_ok-gates.ensures ∙ netlist_gate_put (design_of a) a.points a.wires.fanout a.wires.drivers key found.0 c.args.new change c.self.invariant there changed)
