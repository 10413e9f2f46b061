use Rattle.std.proofs.Common.{take}
use Rattle.std.specs.List.{filter}
use Rattle.devices.specs.Outgoing.{Adds}
use Rattle.design.specs.Keys.{netlist}
use Rattle.listing.specs.Listings.{net_lines}
use Rattle.listing.proofs.net_lines.inputs.Given as goal

abbrev pub invariant-loop-place : goal.invariant-loop-place
invariant-loop-place g l = Adds l.initial.writer l.writer (net_lines (filter (λ n. n.is_input) (take l.place (netlist l.design).nets)))
