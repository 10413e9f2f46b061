use Rattle.std.proofs.Common.{◌≡◌, ◌++◌, drop, map}
use Rattle.design.specs.Keys.{netlist}
use Rattle.vread.specs.kept.Parts.{kept_gate}
use Rattle.vread.proofs.gates.with_scope_gates.Given as goal

abbrev pub invariant-loop-gate : goal.invariant-loop-gate
invariant-loop-gate l = record {
  all : (netlist l.made).gates ++ map (kept_gate l.names (netlist l.fn.design).nets l.scope) (drop l.gate-index l.gate-items)
      ≡ (netlist l.fn.design).gates ++ map (kept_gate l.names (netlist l.fn.design).nets l.scope) l.gate-items;
  others : netlist l.made ≡ record (netlist l.fn.design) { gates = (netlist l.made).gates };
}
