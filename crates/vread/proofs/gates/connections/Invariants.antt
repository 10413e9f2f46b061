use Rattle.std.proofs.Common.{◌≡◌, All, length, map, take}
use Rattle.design.specs.Keys.{connection_in, netlist}
use Rattle.design.specs.kept.Keys.{IsThere}
use Rattle.elaboration.specs.kept.Numbered.{ref_at}
use Rattle.vread.specs.kept.Parts.{connection_of}
use Rattle.vread.proofs.gates.connections.Given as goal

abbrev pub invariant-loop-input : goal.invariant-loop-input
invariant-loop-input l = record {
  named : map (connection_in l.design.nets) l.made.items ≡ map (λ input. connection_of (netlist l.design).nets (ref_at l.scope input)) (take l.input-index l.inputs);
  there : All (IsThere l.design.nets) l.made.items;
  count : length l.made.items ≡ l.input-index;
}
