-- A dump: the text that viewers read (IEEE 1364-2005, 18).
use Rattle.std.specs.Prelude.{ℕ, suc, List, ◌++◌, map}
use Rattle.fourstate.specs.declared.value.Value.{Value}
use Rattle.gatestep.specs.Step.{advance}
use Rattle.design.specs.Netlist.{Netlist}
use Rattle.scratch.specs.Run.{wave_of}
use Rattle.vcd.specs.Changes.{lines_below}
use Rattle.vcd.specs.Head.{head_lines}

-- the changes of each net's value, up to the horizon
abbrev pub waves_of : Netlist → List (List (ℕ × Value))
waves_of d = map (wave_of advance d) d.nets

-- the head, and the lines of each moment up to the horizon
abbrev pub dump_of : Netlist → List (List (ℕ × Value)) → List ℕ
dump_of d waves = head_lines d ++ lines_below waves d.horizon (suc d.horizon)

-- the dump of a design's run
unfoldable pub vcd_of : Netlist → List ℕ
vcd_of d = dump_of d (waves_of d)
