-- What parts of the text say.
use Rattle.std.specs.Prelude.{false, ℕ, nat_eq, [], ◌∷◌, ◌++◌, Option, None, Some, unwrap_or}
use Rattle.indexmap.specs.IndexMap.{insert_entry}
use Rattle.vtext.specs.declared.gate.Terminal.{Terminal}
use Rattle.vtext.specs.declared.gate.Terminal.TheVariants.{Bit, Constant, Net}
use Rattle.vtext.specs.declared.parser_state.Indexed.{Indexed}
use Rattle.vtext.specs.declared.parser_state.Indexed.TheVariants as indexed
use Rattle.vtext.specs.GateNames.{with_taken}
use Rattle.vtext.specs.Modules.{ModuleEntry}
use Rattle.vtext.specs.Nets.{blank, declared, directed, listed, net_of, ported, with_net, with_use}
use Rattle.vtext.specs.Readings.{Reading}

-- Nets.

-- a header of the older form names a port
abbrev pub list_port : Reading → ℕ → Reading
list_port r n = record r { nets = with_net r.nets n listed }

-- a header of the inline form declares a port
abbrev pub declare_port : Reading → ℕ → Reading
declare_port r n = record r { nets = with_net r.nets n (ported r.direction r.kind r.range) }

-- a port declaration names a net
abbrev pub direct_port : Reading → ℕ → Reading
direct_port r n = record r { nets = with_net r.nets n (directed r.direction r.kind r.range (unwrap_or (net_of r.nets n) blank)) }

-- a net declaration names a net
abbrev pub declare_net : Reading → ℕ → Reading
declare_net r n = record r { nets = with_net r.nets n (declared r.kind r.range (unwrap_or (net_of r.nets n) blank)) }

-- Terminals.

-- a terminal names a net
abbrev pub note_use : Reading → ℕ → Reading
note_use r n = record r { nets = with_use r.nets n }

-- a terminal names a vector, and its index is still to come
abbrev pub note_index : Reading → ℕ → Reading
note_index r n = record r { nets = with_use r.nets n; indexed = n }

-- what a terminal says of nets
abbrev pub note_terminal : Reading → Terminal → Reading
note_terminal r (Net n) = note_use r n
note_terminal r (Bit n i) = note_index r n
note_terminal r (Constant value) = r

-- a gate instance has a terminal more
abbrev pub add_terminal : Reading → Terminal → Reading
add_terminal r terminal = record r { terminals = r.terminals ++ terminal ∷ [] }

-- a terminal of a gate instance
abbrev pub use_terminal : Reading → Terminal → Reading
use_terminal r terminal = add_terminal (note_terminal r terminal) terminal

-- Gates.

-- a gate instance is written with this name
abbrev pub name_instance : Reading → ℕ → Reading
name_instance r n = record r { instance = Some n; taken = with_taken r.taken n }

-- Instances of modules.

-- an instance of a module is written with this name, which begins here
abbrev pub name_module_instance : Reading → ℕ → ℕ → Reading
name_module_instance r start n = record r { instance_start = start; instance_name = n; taken = with_taken r.taken n; port = None; connections = [] }

-- what a port is connected to, if anything, says this of nets
abbrev pub note_place : Reading → Option Terminal → Reading
note_place r None = r
note_place r (Some terminal) = note_terminal r terminal

-- an instance has a connection more
abbrev pub add_connection : Reading → Option Terminal → Reading
add_connection r terminal = record r { connections = r.connections ++ (record { port = r.port; terminal = terminal }) ∷ [] }

-- a port is connected to this, or to nothing
abbrev pub connect : Reading → Option Terminal → Reading
connect r terminal = add_connection (note_place r terminal) terminal

-- where an index belongs, the bit of it is a terminal of a gate instance, or connected to a port
abbrev pub add_bit : Indexed → Reading → ℕ → Reading
add_bit indexed.Gate r i = add_terminal r (Bit r.indexed i)
add_bit place r i = add_connection r (Some (Bit r.indexed i))

-- the instance is complete
abbrev pub instantiated : Reading → Reading
instantiated r = record r {
  instances = r.instances ++ (record { start = r.instance_start; name = r.instance_name; «module» = r.of; connections = r.connections }) ∷ [];
}

-- Modules.

-- the module that is being read
abbrev pub module_of : Reading → ModuleEntry
module_of r = record { start = r.start; nets = r.nets; gates = r.gates; instances = r.instances }

-- the module is finished: one of a new name goes last
abbrev pub finished : Reading → Reading
finished r = record r {
  modules = insert_entry nat_eq r.modules r.name (module_of r);
  start = 0;
  name = 0;
  inline = false;
  nets = [];
  gates = [];
  instances = [];
  taken = [];
  unnamed = 0;
}
