-- One moment over what the simulator keeps: the state of each gate's driver in the order of the gates, the value of each
-- net in the order of the nets, and places in these orders in place of names.
use Rattle.std.specs.Prelude.{◌≡◌, Bool, true, false, ℕ, nat_eq, ◌||◌, not, if◌then◌else◌, List, [], ◌∷◌, Option, Some, None, map, slice_get, unwrap_or}
use Rattle.std.specs.List.{zip, position_from}
use Rattle.std.specs.Option.{option_map_or}
use Rattle.fourstate.specs.declared.value.Value.{Value}
use Rattle.fourstate.specs.declared.value.Value.TheVariants.{Unknown}
use Rattle.fourstate.specs.declared.net.NetKind.{NetKind}
use Rattle.fourstate.specs.Nets.{net_of}
use Rattle.fourstate.specs.kept.Nets.{passes_lone_driver}
use Rattle.gatestep.specs.Step.{State, Evaluation, due}
use Rattle.design.specs.Connections.{Connection, to_net, to_constant}
use Rattle.design.specs.Names.{same_name}
use Rattle.design.specs.Netlist.{NetEntry, GateEntry, Netlist, stimulus}
use Rattle.design.specs.kept.Places.{driver_places}
use Rattle.scratch.specs.declared.wiring.Input.{Input}
use Rattle.scratch.specs.declared.wiring.Input.TheVariants.{At, Fixed}
use Rattle.smallvec.specs.SmallVec.{SmallVec}
use Rattle.scratch.specs.kept.Cells.{CellRecord}
use Rattle.scratch.specs.kept.Places.{drives_at, has, reads_at}
use Rattle.scratch.specs.declared.wiring.Wiring.{Wiring}

-- where an input gets its value from
abbrev pub input_of : Netlist → Connection → Input
input_of d (to_net name) = option_map_or At (position_from (λ n. same_name n.name name) 0 d.nets) (Fixed Unknown)
input_of d (to_constant v) = Fixed v

-- a gate of the design as it is evaluated
abbrev pub cell_of : Netlist → GateEntry → CellRecord
cell_of d g = record { kind = g.kind; delays = g.delays; inputs = map (input_of d) g.inputs }

-- the list at a place
abbrev pub places_at : List (SmallVec ℕ) → ℕ → List ℕ
places_at lists m = option_map_or (λ places. places.items) (slice_get lists m) []

-- the output at a place, if there is one
abbrev pub output_at : List ℕ → ℕ → List ℕ
output_at outputs k = option_map_or (λ m. m ∷ []) (slice_get outputs k) []

-- the input reads the net at m
abbrev pub is_at : ℕ → Input → Bool
is_at m (At place) = nat_eq m place
is_at m (Fixed v) = false

-- the kind of a net, if its drivers give its value
abbrev pub driven_kind : NetEntry → Option NetKind
driven_kind n = if n.is_input then None else Some n.kind

-- the place that stands alone in a list
abbrev pub only_place : List ℕ → Option ℕ
only_place [] = None
only_place (p ∷ []) = Some p
only_place (p ∷ q ∷ ps) = None

-- among the places of a net's drivers that of the one that alone gives it its value: an only one, where the net's kind passes it
abbrev pub lone_place : NetEntry → List ℕ → Option ℕ
lone_place n places = if n.is_input || not (passes_lone_driver n.kind) then None else only_place places

-- the driver that alone gives a net its value, if there is one
abbrev pub lone_driver : Netlist → NetEntry → Option ℕ
lone_driver d n = lone_place n (driver_places d.gates n.name)

-- these are the connections of the design
pub record IsWiring (d : Netlist) (w : Wiring) : Type 0 where
  pub cells : w.cells.items ≡ map (cell_of d) d.gates
  pub drivers : map (λ places. places.items) w.drivers.items ≡ map (λ n. driver_places d.gates n.name) d.nets
  pub outputs : (k m : ℕ) → drives_at d k m ≡ true → has m (output_at w.outputs.items k) ≡ true
  pub driven : (k m : ℕ) → has m (output_at w.outputs.items k) ≡ true → drives_at d k m ≡ true
  pub readers : (k m : ℕ) → has k (places_at w.readers.items m) ≡ reads_at d k m
  pub kinds : w.kinds.items ≡ map driven_kind d.nets
  pub lone_drivers : w.lone_drivers.items ≡ map (lone_driver d) d.nets

-- the values at some places
abbrev pub values_at : List Value → List ℕ → List Value
values_at values places = map (λ place. unwrap_or (slice_get values place) Unknown) places

-- the current values of states once their due events have become current
abbrev pub currents_of : List State → ℕ → List Value
currents_of states t = map (λ s. (due s t).current) states

-- the value of a net whose drivers are at these places
abbrev pub net_from : List Value → ℕ → NetEntry → List ℕ → Value
net_from currents t n places = if n.is_input then stimulus n.points t else net_of n.kind (values_at currents places)

-- the value of each net at t, from the current values of the drivers
abbrev pub values_from : Netlist → List (List ℕ) → List Value → ℕ → List Value
values_from d drivers currents t = map (λ p. net_from currents t p.0 p.1) (zip d.nets drivers)

-- the value that an input reads
abbrev pub input_value : List Value → Input → Value
input_value values (At place) = unwrap_or (slice_get values place) Unknown
input_value values (Fixed v) = v

-- what is evaluated of a cell in this state
abbrev pub evaluation_from : List Value → CellRecord → State → Evaluation
evaluation_from values cell state =
    record { kind = cell.kind; delays = cell.delays; state = state; inputs = map (input_value values) cell.inputs }

-- what is evaluated of each cell
abbrev pub evaluations_from : List Value → List CellRecord → List State → List Evaluation
evaluations_from values cells states = map (λ p. evaluation_from values p.0 p.1) (zip cells states)
