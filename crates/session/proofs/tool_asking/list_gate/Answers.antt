use Rattle.design.specs.Keys.{netlist}
use Rattle.design.specs.Netlist.{gate_named}
use Rattle.session.proofs.ToolLemmas.{gate_told}
use Rattle.session.proofs.tool_asking.list_gate.Goals as goal

pub returns : goal.returns
returns g c =
    let d = netlist c.args.design.now in
    gate_told c.args.writer.now c.gate.new.writer d.gates c.in-Some.place (gate_named d c.args.gate.now) c.in-Some.ensures.within
    (rw c.as_str.ensures at c.in-Some.ensures.gate) c.gate.ensures
