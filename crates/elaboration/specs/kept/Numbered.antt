-- Scopes as they are kept: a net of the design is known by its place in the design's order, and the bits of a vector stand together.
use Rattle.std.specs.Prelude.{Bool, true, false, ℕ, zero, suc, nat_eq, nat_lt, ◌+◌, ◌-◌, ◌^◌, ◌≢◌, ◌&&◌, ◌++◌, if◌then◌else◌, min, List, [], ◌∷◌, length, map, replicate, set, fold, AllPairs, Option, None, Some, option_map, codes}
use Rattle.std.specs.Map.{lookup}
use Rattle.std.specs.Option.{option_map_or}
use Rattle.fourstate.specs.declared.value.Value.TheVariants.{Unknown}
use Rattle.vtext.specs.declared.gate.Terminal.{Terminal}
use Rattle.vtext.specs.declared.gate.Terminal.TheVariants as terminals
use Rattle.vtext.specs.declared.module_instance.PortConnection.{PortConnection}
use Rattle.vtext.specs.declared.net.Net as nets
use Rattle.vtext.specs.declared.range.Range.{Range}
use Rattle.vtext.specs.Modules.{InstanceEntry, ModuleEntry}
use Rattle.vtext.specs.Names.{name_at}
use Rattle.vtext.specs.Nets.{is_input, net_kind}
use Rattle.vtext.specs.kept.Nets.{place_of}
use Rattle.vtext.specs.Ranges.{place_of_bit, width_of}
use Rattle.elaboration.specs.declared.limits.TheConstants.{MAX_DEPTH}
use Rattle.elaboration.specs.declared.node.NetRun.{NetRun}
use Rattle.elaboration.specs.declared.node.NodeRef.{NodeRef}
use Rattle.elaboration.specs.declared.node.NodeRef.TheVariants.{Nets, Tied}
use Rattle.elaboration.specs.declared.node.Slot.{Slot}
use Rattle.elaboration.specs.declared.node.Slot.TheVariants as slot_cases
use Rattle.elaboration.specs.Ports.{joined_from, range_of}

-- A scope before its nets have places.
pub record Start : Type 0 where
  pub entry : ModuleEntry
  pub path : List ℕ
  pub top : Bool
  -- what its connected ports are, by the places of the module's nets
  pub given : List (Option NodeRef)

-- A scope whose nets have places: what the nets of its module are, in their order.
pub record PlacedScope : Type 0 where
  pub entry : ModuleEntry
  pub path : List ℕ
  pub slots : List Slot

-- The scopes so far, and how many nets come with them.
pub record SoFar : Type 0 where
  pub list : List PlacedScope
  pub count : ℕ

-- The nets of a scope.

-- what a slot is in the design
abbrev pub slot_node : Slot → NodeRef
slot_node (slot_cases.Own run) = Nets run
slot_node (slot_cases.Joined run) = Nets run
slot_node (slot_cases.Tied value) = Tied value

-- its net comes with the scope
abbrev pub is_own_slot : Slot → Bool
is_own_slot (slot_cases.Own run) = true
is_own_slot (slot_cases.Joined run) = false
is_own_slot (slot_cases.Tied value) = false

-- what a net is: a connected port, or a net that comes with the scope and has this place
abbrev pub slot_of : Bool → ℕ → nets.Net → Option NodeRef → Slot
slot_of top place net (Some (Nets run)) = slot_cases.Joined run
slot_of top place net (Some (Tied value)) = slot_cases.Tied value
slot_of top place net None = slot_cases.Own (record { place = place; width = width_of net.range; kind = net_kind net; is_input = top && is_input net })

-- the place after a net, as far as numbers go
abbrev pub next_place : ℕ → nets.Net → Option NodeRef → ℕ
next_place place net (Some node) = place
next_place place net None = min (place + width_of net.range) (2 ^ 32 - 1)

-- what nets are, of which those that come with the scope have places from here on
abbrev pub slots_from : Bool → ℕ → List (ℕ × nets.Net) → List (Option NodeRef) → List Slot
slots_from top place [] given = []
slots_from top place (net ∷ more) [] = []
slots_from top place (net ∷ more) (node ∷ given) = slot_of top place net.1 node ∷ slots_from top (next_place place net.1 node) more given

-- the place after those that they take
abbrev pub place_after : ℕ → List (ℕ × nets.Net) → List (Option NodeRef) → ℕ
place_after place [] given = place
place_after place (net ∷ more) [] = place
place_after place (net ∷ more) (node ∷ given) = place_after (next_place place net.1 node) more given

abbrev pub placed : ℕ → Start → PlacedScope
placed place start =
    record { entry = start.entry; path = start.path; slots = slots_from start.top place start.entry.nets start.given }

-- a scope more
abbrev pub with_scope : SoFar → Start → SoFar
with_scope so_far start =
    record { list = so_far.list ++ placed so_far.count start ∷ []; count = place_after so_far.count start.entry.nets start.given }

-- Instances.

-- what the net of this name is, of nets that are these
abbrev pub slot_for : ℕ → List (ℕ × nets.Net) → List Slot → Option Slot
slot_for n [] slots = None
slot_for n (net ∷ more) [] = None
slot_for n (net ∷ more) (slot ∷ slots) = if nat_eq n net.0 then Some slot else slot_for n more slots

-- the net at a place of a run alone; past its end none
abbrev pub run_bit : ℕ → NetRun → NetRun
run_bit place run = record run { place = min (run.place + place) (2 ^ 32 - 1); width = if nat_lt place run.width then 1 else 0 }

-- the bit of an index, of what has a range
abbrev pub bit_ref : Option Range → ℕ → NodeRef → NodeRef
bit_ref None i node = node
bit_ref (Some range) i (Nets run) = Nets (run_bit (place_of_bit range i) run)
bit_ref (Some range) i (Tied value) = Tied value

-- what the net of this name is
abbrev pub ref_for : PlacedScope → ℕ → NodeRef
ref_for scope n = option_map_or slot_node (slot_for n scope.entry.nets scope.slots) (Tied Unknown)

-- what a terminal in a scope is
abbrev pub ref_at : PlacedScope → Terminal → NodeRef
ref_at scope (terminals.Constant value) = Tied value
ref_at scope (terminals.Net n) = ref_for scope n
ref_at scope (terminals.Bit n i) = bit_ref (range_of scope.entry.nets n) i (ref_for scope n)

-- nets have different names
abbrev pub AreDistinct : List (ℕ × nets.Net) → Type 0
AreDistinct nets = AllPairs (λ a b. a.0 ≢ b.0) nets

-- the place of the net that a connection at a place is for
abbrev pub place_for : List (ℕ × nets.Net) → ℕ → PortConnection → Option ℕ
place_for nets at connection = option_map_or (place_of nets) connection.port (Some at)

-- the net at a place is connected so
abbrev pub with_joint : List (Option Terminal) → Option ℕ → Option Terminal → List (Option Terminal)
with_joint joints place terminal = option_map_or (λ p. set joints p terminal) place joints

-- what the nets of a module, from a place on, are connected to by connections that begin at a place
abbrev pub joints_from : List PortConnection → ℕ → ℕ → List (ℕ × nets.Net) → List (Option Terminal)
joints_from connections at place [] = []
joints_from connections at place (net ∷ more) = joined_from connections at place net.0 ∷ joints_from connections at (suc place) more

-- no scopes
abbrev pub none : SoFar
none = record { list = []; count = 0 }

-- the scope at the top
abbrev pub top_start : ModuleEntry → Start
top_start m = record { entry = m; path = []; top = true; given = replicate (length m.nets) None }

-- what the ports of an instance of a module are, by the places of the module's nets
abbrev pub given_of : PlacedScope → InstanceEntry → ModuleEntry → List (Option NodeRef)
given_of scope i m = map (option_map (ref_at scope)) (joints_from i.connections 0 0 m.nets)

-- A scope alone: its nets have places from 0 on, and of an instance nothing stands before its names.
abbrev pub top_alone : ModuleEntry → PlacedScope
top_alone m = placed 0 (top_start m)

abbrev pub inner_alone : PlacedScope → InstanceEntry → ModuleEntry → PlacedScope
inner_alone scope i m = placed 0 (record { entry = m; path = []; top = false; given = given_of scope i m })

-- Below, `names` is the table of names.

-- the scope of an instance of a module
abbrev pub inner_start : List (List ℕ) → PlacedScope → InstanceEntry → ModuleEntry → Start
inner_start names scope i m = record {
  entry = m;
  path = scope.path ++ name_at names i.name ++ codes ".";
  top = false;
  given = given_of scope i m;
}

module _ (names : List (List ℕ)) (modules : List (ℕ × ModuleEntry)) where
  -- with the scopes below this one, to so many levels
  abbrev pub with_below : ℕ → PlacedScope → SoFar → SoFar
  with_below zero scope so_far = so_far
  with_below (suc levels) scope so_far =
      fold (λ s i. option_map_or (λ m. with_below levels (placed s.count (inner_start names scope i m)) (with_scope s (inner_start names scope i m)))
      (lookup (nat_eq i.«module») modules) s) so_far scope.entry.instances

  -- with a scope and those below it
  abbrev pub with_scopes : ℕ → SoFar → Start → SoFar
  with_scopes levels so_far start = with_below levels (placed so_far.count start) (with_scope so_far start)

  -- with the scope of an instance and those below it, where the text has its module
  abbrev pub with_instance : ℕ → PlacedScope → SoFar → InstanceEntry → SoFar
  with_instance levels scope so_far i =
      option_map_or (λ m. with_scopes levels so_far (inner_start names scope i m)) (lookup (nat_eq i.«module») modules) so_far

  -- the scopes of a design with this module at its top
  unfoldable pub kept_scopes : ModuleEntry → SoFar
  kept_scopes m = with_scopes MAX_DEPTH none (top_start m)
