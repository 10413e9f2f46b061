use Rattle.std.proofs.Common.{take}
use Rattle.devices.specs.Outgoing.{Adds}
use Rattle.listing.specs.kept.Listings.{names_at}
use Rattle.listing.proofs.wires.gate_names.Given as goal

abbrev pub invariant-loop-gate : goal.invariant-loop-gate
invariant-loop-gate g l = Adds l.initial.writer l.writer (names_at l.design.gates (take l.gate-index l.gates))
