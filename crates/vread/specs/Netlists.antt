-- The design that modules spell: the nets and gates of all scopes of the top, in order (IEEE 1364-2005, 12.1).
use Rattle.std.specs.Prelude.{ℕ, Option, option_map, unwrap_or}
use Rattle.fourstate.specs.declared.unit.Magnitude.TheVariants.{One}
use Rattle.fourstate.specs.declared.unit.TimeUnit.{TimeUnit}
use Rattle.fourstate.specs.declared.unit.Unit.TheVariants.{Nanosecond}
use Rattle.design.specs.Netlist.{Netlist}
use Rattle.vtext.specs.Modules.{ModuleEntry, ModuleList}
use Rattle.vtext.specs.Names.{name_at}
use Rattle.elaboration.specs.Scopes.{gates_of, nets_of}
use Rattle.elaboration.specs.Tops.{top_of}

-- the unit of a design: that of the text's directives, 1 ns without one
abbrev pub unit_of : Option TimeUnit → TimeUnit
unit_of unit = unwrap_or unit (record { magnitude = One; unit = Nanosecond })

-- the design that a module of the list spells
abbrev pub netlist_of : ModuleList → ℕ × ModuleEntry → Netlist
netlist_of list top = record {
  top = name_at list.names top.0;
  unit = unit_of list.unit;
  nets = nets_of list.names list.modules top.1;
  gates = gates_of list.names list.modules top.1;
  horizon = 0;
}

-- the design that the modules of a text spell, if there are any
abbrev pub design_of : ModuleList → Option Netlist
design_of list = option_map (netlist_of list) (top_of list.modules)
