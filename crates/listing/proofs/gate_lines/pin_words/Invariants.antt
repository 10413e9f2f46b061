use Rattle.std.proofs.Common.{map, take}
use Rattle.devices.specs.Outgoing.{Adds}
use Rattle.design.specs.Keys.{connection_in}
use Rattle.listing.specs.Lines.{pin_words}
use Rattle.listing.proofs.gate_lines.pin_words.Given as goal

abbrev pub invariant-loop-pin : goal.invariant-loop-pin
invariant-loop-pin g l = Adds l.initial.writer l.writer (pin_words (map (connection_in l.design.nets) (take l.pin-index l.pins)))
