use Rattle.std.proofs.Common.{◌≡◌, take, length, slice_get}
use Rattle.design.specs.Keys.{netlist}
use Rattle.scratch.specs.kept.Kept.{currents_of}
use Rattle.scratch.specs.kept.Tallies.{AreTallies}
use Rattle.scratch.proofs.Between.{Between}
use Rattle.scratch.proofs.tallies.Tallies.follow.Given as goal

-- the drivers at the places so far are counted with their new values, the others with their former ones
abbrev pub invariant-loop-gate : goal.invariant-loop-gate
invariant-loop-gate l =
    record {
      nets : AreTallies (netlist l.design) l.self.nets.items l.self.counted.items;
      counted : Between (take l.gate-index l.gates) (slice_get l.fn.self.counted.items) (slice_get (currents_of l.states l.t)) (slice_get l.self.counted.items);
      each : length l.self.counted.items ≡ length (netlist l.design).gates;
      as_many : length l.self.nets.items ≡ length l.fn.self.nets.items;
    }
