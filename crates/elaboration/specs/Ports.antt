-- The port connections of an instance (IEEE 1364-2005, 12.3): which port each of them is for, and what is wrong with them. The ports
-- of a module are the first of its nets, in the order of its header.
use Rattle.std.specs.Prelude.{Bool, true, false, ℕ, suc, nat_eq, ◌&&◌, ◌||◌, not, if◌then◌else◌, List, [], ◌∷◌, Option, None, Some, is_none, option_and_then, option_map, slice_get}
use Rattle.std.specs.List.{list_any, position}
use Rattle.std.specs.Map.{lookup}
use Rattle.std.specs.Option.{option_map_or, option_or}
use Rattle.lexing.specs.Lines.{line_of}
use Rattle.vtext.specs.declared.fault.ReadFault.{ReadFault}
use Rattle.vtext.specs.declared.fault.ReadFaultKind.{ReadFaultKind}
use Rattle.vtext.specs.declared.fault.ReadFaultKind.TheVariants.{PortCount, PortKind, UnknownModule, WidthMismatch}
use Rattle.vtext.specs.declared.gate.Terminal.{Terminal}
use Rattle.vtext.specs.declared.gate.Terminal.TheVariants as terminals
use Rattle.vtext.specs.declared.module_instance.PortConnection.{PortConnection}
use Rattle.vtext.specs.declared.net.Net.{Net}
use Rattle.vtext.specs.declared.range.Range.{Range}
use Rattle.vtext.specs.declared.word.Direction.{Direction}
use Rattle.vtext.specs.declared.word.Direction.TheVariants.{Output}
use Rattle.vtext.specs.Instances.{is_constant}
use Rattle.vtext.specs.Modules.{InstanceEntry, ModuleEntry}
use Rattle.vtext.specs.Nets.{net_of}
use Rattle.vtext.specs.Ranges.{width_of}

-- Which port a connection is for.

abbrev pub only_port : Net → Option Net
only_port net = if net.port then Some net else None

-- the port of a module that the connection at this place is for: the one that it names, else the one at its place
abbrev pub port_at : ModuleEntry → ℕ → PortConnection → Option Net
port_at m place connection =
    option_and_then only_port (option_map_or (net_of m.nets) connection.port (option_map (λ net. net.1) (slice_get m.nets place)))

-- the connection at a place is for the net of this place and name
abbrev pub is_for : PortConnection → ℕ → ℕ → ℕ → Bool
is_for connection at place name = option_map_or (nat_eq name) connection.port (nat_eq place at)

-- what the net of this place and name is connected to by connections that begin at a place
abbrev pub joined_from : List PortConnection → ℕ → ℕ → ℕ → Option Terminal
joined_from [] at place name = None
joined_from (connection ∷ more) at place name = if is_for connection at place name then connection.terminal else joined_from more (suc at) place name

-- what the net of this name is connected to, if anything
abbrev pub joined_to : ModuleEntry → List PortConnection → ℕ → Option Terminal
joined_to m connections name =
    option_and_then (λ place. joined_from connections 0 place name) (position (λ net. nat_eq name net.0) m.nets)

-- Widths: those of what is connected are of the module that the instance is in.

-- the range of the net of this name, if it is a vector
abbrev pub range_of : List (ℕ × Net) → ℕ → Option Range
range_of nets n = option_and_then (λ net. net.range) (net_of nets n)

-- how many bits a terminal among these nets has
abbrev pub width_at : List (ℕ × Net) → Terminal → ℕ
width_at nets (terminals.Net n) = width_of (range_of nets n)
width_at nets terminal = 1

-- What is wrong with connections.

-- a connection is for no port: there are more than ports, or another name than those of the ports
abbrev pub has_stranger : ModuleEntry → ℕ → List PortConnection → Bool
has_stranger m place [] = false
has_stranger m place (connection ∷ more) = is_none (port_at m place connection) || has_stranger m (suc place) more

-- the connection names this port
abbrev pub names_port : ℕ → PortConnection → Bool
names_port name connection = option_map_or (nat_eq name) connection.port false

-- a port is named twice
abbrev pub is_named_twice : List PortConnection → Bool
is_named_twice [] = false
is_named_twice (connection ∷ more) = option_map_or (λ name. list_any (names_port name) more) connection.port false || is_named_twice more

abbrev pub is_output : Option Direction → Bool
is_output (Some Output) = true
is_output direction = false

-- a constant is connected
abbrev pub is_tied : Option Terminal → Bool
is_tied terminal = option_map_or is_constant terminal false

-- something is connected that has another width than the port
abbrev pub is_width_wrong : List (ℕ × Net) → Option Terminal → Net → Bool
is_width_wrong nets terminal port = option_map_or (λ t. not (nat_eq (width_at nets t) (width_of port.range))) terminal false

-- why the connection of a port is refused, if it is: the widths differ, or a constant is on an output
abbrev pub connection_fault : List (ℕ × Net) → PortConnection → Net → Option ReadFaultKind
connection_fault nets connection port =
    if is_width_wrong nets connection.terminal port then Some WidthMismatch
    else if is_output port.direction && is_tied connection.terminal then Some PortKind
    else None

-- why the first connection to a module that is refused is, of those from a place on
abbrev pub connections_fault : List (ℕ × Net) → ModuleEntry → ℕ → List PortConnection → Option ReadFaultKind
connections_fault nets m place [] = None
connections_fault nets m place (connection ∷ more) =
    option_or (option_and_then (connection_fault nets connection) (port_at m place connection)) (connections_fault nets m (suc place) more)

-- why an instance of a module is refused, if it is: all causes of a wrong count come first
abbrev pub ports_fault : List (ℕ × Net) → List PortConnection → ModuleEntry → Option ReadFaultKind
ports_fault nets connections m =
    if has_stranger m 0 connections || is_named_twice connections then Some PortCount
    else connections_fault nets m 0 connections

-- why an instance in a module of these nets is refused, if it is
abbrev pub instance_fault : List (ℕ × ModuleEntry) → List (ℕ × Net) → InstanceEntry → Option ReadFaultKind
instance_fault modules nets i = option_map_or (ports_fault nets i.connections) (lookup (nat_eq i.«module») modules) (Some UnknownModule)

-- The second pass: the first fault of instances in the order of the text, at the line of the instance's name.

abbrev pub fault_at : List ℕ → ℕ → ReadFaultKind → ReadFault
fault_at text start kind = record { line = line_of text start; kind = kind }

abbrev pub first_instance_fault : List ℕ → List (ℕ × ModuleEntry) → List (ℕ × Net) → List InstanceEntry → Option ReadFault
first_instance_fault text modules nets [] = None
first_instance_fault text modules nets (i ∷ more) =
    option_or (option_map (fault_at text i.start) (instance_fault modules nets i)) (first_instance_fault text modules nets more)

-- the instances of the modules from here on
abbrev pub second_pass_from : List ℕ → List (ℕ × ModuleEntry) → List (ℕ × ModuleEntry) → Option ReadFault
second_pass_from text modules [] = None
second_pass_from text modules (m ∷ more) = option_or (first_instance_fault text modules m.1.nets m.1.instances) (second_pass_from text modules more)

abbrev pub second_pass : List ℕ → List (ℕ × ModuleEntry) → Option ReadFault
second_pass text modules = second_pass_from text modules modules
