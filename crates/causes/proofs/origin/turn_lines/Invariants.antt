use Rattle.std.proofs.Common.{take}
use Rattle.devices.specs.Outgoing.{Adds}
use Rattle.design.specs.Keys.{netlist}
use Rattle.causes.specs.CauseLines.{driver_lines}
use Rattle.causes.specs.kept.KeyedLines.{lines_at_keys}
use Rattle.causes.proofs.origin.turn_lines.Given as goal

abbrev pub invariant-loop-gate : goal.invariant-loop-gate
invariant-loop-gate g l = Adds l.initial.writer l.writer (lines_at_keys (driver_lines (netlist l.design) l.t) l.design.nets l.design.gates (take l.gate-index l.gates))
