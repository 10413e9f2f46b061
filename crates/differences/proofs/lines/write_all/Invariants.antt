use Rattle.std.proofs.Common.{◌++◌, flat_map, take}
use Rattle.devices.specs.Outgoing.{Adds}
use Rattle.design.specs.Keys.{netlist}
use Rattle.differences.specs.kept.Found.{line_of, names_in}
use Rattle.differences.proofs.lines.write_all.Given as goal

-- the lines of the differences before this one are written
abbrev pub invariant-loop-difference : goal.invariant-loop-difference
invariant-loop-difference g l = Adds l.initial.writer l.writer (flat_map (line_of (names_in (netlist l.design) ++ names_in (netlist l.other))) (take l.difference-index l.room.found.items))
