use Rattle.std.proofs.Common.{◌≡◌, ◌++◌, drop}
use Rattle.std.specs.Prelude.{flat_map}
use Rattle.design.specs.Keys.{netlist}
use Rattle.vread.specs.kept.Parts.{kept_gates}
use Rattle.vread.proofs.gates.with_gates.Given as goal

abbrev pub invariant-loop-scope : goal.invariant-loop-scope
invariant-loop-scope l = record {
  all : (netlist l.made).gates ++ flat_map (kept_gates l.names (netlist l.fn.design).nets) (drop l.scope-index l.scopes)
      ≡ (netlist l.fn.design).gates ++ flat_map (kept_gates l.names (netlist l.fn.design).nets) l.scopes;
  others : netlist l.made ≡ record (netlist l.fn.design) { gates = (netlist l.made).gates };
}
