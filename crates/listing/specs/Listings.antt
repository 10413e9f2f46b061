-- What a design has, a line for each thing, in order (own).
use Rattle.std.specs.Prelude.{ℕ, List}
use Rattle.std.specs.List.{filter, flat_map}
use Rattle.fourstate.specs.declared.value.Value.{Value}
use Rattle.design.specs.Netlist.{GateEntry, NetEntry, Netlist, reads}
use Rattle.listing.specs.Lines.{change_line, gate_line, name_line, net_line}

-- the inputs of a design
abbrev pub inputs_of : Netlist → List NetEntry
inputs_of d = filter (λ n. n.is_input) d.nets

-- the gates that read the net of this name, each once
abbrev pub readers_of : Netlist → List ℕ → List GateEntry
readers_of d name = filter (λ g. reads g name) d.gates

abbrev pub net_lines : List NetEntry → List ℕ
net_lines nets = flat_map net_line nets

abbrev pub gate_lines : List GateEntry → List ℕ
gate_lines gates = flat_map gate_line gates

-- the gates by their names alone
abbrev pub gate_names : List GateEntry → List ℕ
gate_names gates = flat_map (λ g. name_line g.name) gates

-- moments with the values from then on: points of a stimulus, or changes of a wave
abbrev pub change_lines : List (ℕ × Value) → List ℕ
change_lines changes = flat_map change_line changes
