use Rattle.std.proofs.Common.{take}
use Rattle.devices.specs.Outgoing.{Adds}
use Rattle.design.specs.Keys.{netlist}
use Rattle.listing.specs.Listings.{net_lines}
use Rattle.listing.proofs.net_lines.nets.Given as goal

abbrev pub invariant-loop-place : goal.invariant-loop-place
invariant-loop-place g l = Adds l.initial.writer l.writer (net_lines (take l.place (netlist l.design).nets))
