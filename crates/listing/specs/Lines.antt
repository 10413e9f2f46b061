-- Lines that show one thing of a design or of a run, in the words of a session, each with its line feed (own).
use Rattle.std.specs.Prelude.{Bool, true, false, ℕ, List, [], ◌∷◌, ◌++◌, Option, None, Some, codes, decimal}
use Rattle.std.specs.List.{flat_map}
use Rattle.fourstate.specs.declared.delay_times.DelayTimes.{DelayTimes}
use Rattle.fourstate.specs.declared.value.Value.{Value}
use Rattle.fourstate.specs.Keywords.{gate_keyword, net_keyword}
use Rattle.fourstate.specs.Values.{symbol_of}
use Rattle.design.specs.Connections.{Connection, to_constant, to_net}
use Rattle.design.specs.Netlist.{GateEntry, NetEntry}

-- `T V`: a moment and the value from then on
abbrev pub change_line : ℕ × Value → List ℕ
change_line change = decimal change.0 ++ codes " " ++ (symbol_of change.1 ∷ []) ++ codes "\n"

-- whether there was one change, or more
abbrev pub count_word : Bool → List ℕ
count_word false = codes "one"
count_word true = codes "more"

-- `T FIRST LAST one` or `T FIRST LAST more`: the moment of a part's first change, the values at the part's beginning and end, and
-- whether it has more changes than the first
abbrev pub part_line : ℕ → (first last : Value) → Bool → List ℕ
part_line time first last more = decimal time ++ codes " " ++ (symbol_of first ∷ []) ++ codes " " ++ (symbol_of last ∷ []) ++ codes " " ++ count_word more ++ codes "\n"

-- a name by itself
abbrev pub name_line : List ℕ → List ℕ
name_line name = name ++ codes "\n"

-- `N KIND`
abbrev pub net_line : NetEntry → List ℕ
net_line n = n.name ++ codes " " ++ net_keyword n.kind ++ codes "\n"

-- what an input of a gate is connected to: the name of a net, or 1'b and a value
abbrev pub pin_word : Connection → List ℕ
pin_word (to_net name) = name
pin_word (to_constant v) = codes "1'b" ++ symbol_of v ∷ []

-- each behind a blank
abbrev pub pin_words : List Connection → List ℕ
pin_words pins = flat_map (λ pin. codes " " ++ pin_word pin) pins

-- `/Z`, where there is a turn-off delay
abbrev pub off_word : Option ℕ → List ℕ
off_word None = []
off_word (Some off) = codes "/" ++ decimal off

-- `R F` or `R F/Z`
abbrev pub delay_words : DelayTimes → List ℕ
delay_words delays = decimal delays.rise ++ codes " " ++ decimal delays.fall ++ off_word delays.off

-- `OUT IN..`
abbrev pub wire_words : GateEntry → List ℕ
wire_words g = g.output ++ pin_words g.inputs

-- `KIND R F`
abbrev pub kind_words : GateEntry → List ℕ
kind_words g = gate_keyword g.kind ++ codes " " ++ delay_words g.delays

-- `G KIND R F OUT IN..`, or `F/Z` in place of `F`
abbrev pub gate_line : GateEntry → List ℕ
gate_line g = g.name ++ codes " " ++ kind_words g ++ codes " " ++ wire_words g ++ codes "\n"
