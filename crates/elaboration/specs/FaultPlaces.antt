-- Where the fault of modules lies in the text, and what else it names: by the passes in their order, as the fault itself.
use Rattle.std.specs.Prelude.{Bool, false, ℕ, suc, nat_eq, ◌++◌, if◌then◌else◌, List, [], ◌∷◌, Option, None, Some, is_none, is_some, option_and_then, option_map, slice_get}
use Rattle.std.specs.List.{find, list_any}
use Rattle.std.specs.Map.{lookup}
use Rattle.std.specs.Option.{option_map_or, option_or, option_to_list}
use Rattle.vtext.specs.declared.fault.ReadFaultKind.{ReadFaultKind}
use Rattle.vtext.specs.declared.fault.ReadFaultKind.TheVariants.{PortCount, UnknownModule}
use Rattle.vtext.specs.declared.module_instance.PortConnection.{PortConnection}
use Rattle.vtext.specs.declared.net.Net.{Net}
use Rattle.vtext.specs.Modules.{InstanceEntry, ModuleEntry}
use Rattle.elaboration.specs.declared.fault_places.FaultPlace.{FaultPlace}
use Rattle.elaboration.specs.declared.fault_places.Party.{Party}
use Rattle.elaboration.specs.declared.fault_places.Party.TheVariants.{Module, Port}
use Rattle.elaboration.specs.Ports.{connection_fault, instance_fault, port_at}
use Rattle.elaboration.specs.Tops.{is_recursive, tops_of}

-- Ports: the name of the one at which the connections of an instance have a fault.

-- the name of the first connection that is for no port, if it has one
abbrev pub stranger_name : ModuleEntry → ℕ → List PortConnection → Option ℕ
stranger_name m place [] = None
stranger_name m place (connection ∷ more) = if is_none (port_at m place connection) then connection.port else stranger_name m (suc place) more

-- a connection names one of these ports
abbrev pub names_one : List ℕ → PortConnection → Bool
names_one names connection = option_map_or (λ name. list_any (nat_eq name) names) connection.port false

-- the first name that stood before: among these, or in an earlier connection
abbrev pub again_name : List ℕ → List PortConnection → Option ℕ
again_name names [] = None
again_name names (connection ∷ more) =
    if names_one names connection then connection.port else again_name (names ++ option_to_list connection.port) more

-- the name of the port that a connection at a place is for: the one that it names, else that of the port at its place
abbrev pub port_name : ModuleEntry → ℕ → PortConnection → Option ℕ
port_name m place connection = option_or connection.port (option_map (λ net. net.0) (slice_get m.nets place))

-- of the first connection whose width or kind is refused
abbrev pub misfit_name : List (ℕ × Net) → ModuleEntry → ℕ → List PortConnection → Option ℕ
misfit_name nets m place [] = None
misfit_name nets m place (connection ∷ more) =
    if is_some (option_and_then (connection_fault nets connection) (port_at m place connection)) then port_name m place connection
    else misfit_name nets m (suc place) more

-- where the connections of an instance of a module have a fault of this kind
abbrev pub wrong_port : List (ℕ × Net) → List PortConnection → ReadFaultKind → ModuleEntry → Option ℕ
wrong_port nets connections PortCount m = option_or (stranger_name m 0 connections) (again_name [] connections)
wrong_port nets connections kind m = misfit_name nets m 0 connections

module _ (modules : List (ℕ × ModuleEntry)) (nets : List (ℕ × Net)) where
  -- what a fault of this kind names beside the instance: the module that is missing, or a port
  abbrev pub instance_party : InstanceEntry → ReadFaultKind → Option Party
  instance_party i UnknownModule = Some (Module i.«module»)
  instance_party i kind = option_map Port (option_and_then (wrong_port nets i.connections kind) (lookup (nat_eq i.«module») modules))

  abbrev pub instance_place : InstanceEntry → ReadFaultKind → FaultPlace
  instance_place i kind = record { start = i.start; party = instance_party i kind }

-- the place of the first refused instance of a module
abbrev pub refused_in : List (ℕ × ModuleEntry) → List (ℕ × Net) → List InstanceEntry → Option FaultPlace
refused_in modules nets [] = None
refused_in modules nets (i ∷ more) = option_or (option_map (instance_place modules nets i) (instance_fault modules nets i)) (refused_in modules nets more)

-- and of the modules from here on
abbrev pub refused_from : List (ℕ × ModuleEntry) → List (ℕ × ModuleEntry) → Option FaultPlace
refused_from modules [] = None
refused_from modules (m ∷ more) = option_or (refused_in modules m.1.nets m.1.instances) (refused_from modules more)

-- Modules: the fault lies at the word `module`.

-- the module itself is named
abbrev pub module_place : ℕ × ModuleEntry → FaultPlace
module_place m = record { start = m.1.start; party = Some (Module m.0) }

-- where the design of the top has a fault
abbrev pub top_place : ℕ × ModuleEntry → FaultPlace
top_place m = record { start = m.1.start; party = None }

-- of the modules that no other has an instance of, the second one; of one alone, the top
abbrev pub tops_place : List (ℕ × ModuleEntry) → Option FaultPlace
tops_place [] = None
tops_place (top ∷ []) = Some (top_place top)
tops_place (top ∷ second ∷ more) = Some (module_place second)

abbrev pub together_place : List (ℕ × ModuleEntry) → Option FaultPlace
together_place modules = option_or (option_map module_place (find (is_recursive modules) modules)) (tops_place (tops_of modules))

-- Where the fault of modules lies that have one; there is no place where there is no module. Of modules without a fault it is the
-- word `module` of the top.
abbrev pub fault_place : List (ℕ × ModuleEntry) → Option FaultPlace
fault_place modules = option_or (refused_from modules modules) (together_place modules)
