-- One moment over what the simulator keeps is that moment of the run.
use Rattle.std.proofs.Common.{◌≡◌, ◌∙◌, ap, refl, cond, ℕ, List, [], ◌∷◌, map, Option, Some, None, slice_get, unwrap_or, All}
use Rattle.std.specs.List.{position_from, zip}
use Rattle.std.specs.Option.{option_map_or}
use Rattle.std.proofs.lemmas.List.Elements.{All-cons, All-nil, All-head, All-tail}
use Rattle.fourstate.specs.declared.value.Value.{Value}
use Rattle.fourstate.specs.declared.value.Value.TheVariants.{Unknown}
use Rattle.fourstate.specs.Nets.{net_of}
use Rattle.gatestep.specs.Step.{State, due}
use Rattle.design.specs.Connections.{Connection, to_net, to_constant}
use Rattle.design.specs.Names.{same_name}
use Rattle.design.specs.Netlist.{NetEntry, GateEntry, Netlist, stimulus}
use Rattle.design.specs.kept.Places.{driver_places}
use Rattle.scratch.specs.kept.Cells.{CellRecord}
use Rattle.scratch.specs.kept.Kept.{cell_of, currents_of, evaluation_from, evaluations_from, input_of, input_value, net_from, values_from}
use Rattle.scratch.specs.Run.{net_at, terminal_at, evaluation_at}
use Rattle.scratch.specs.declared.wiring.Input.TheVariants.{At, Fixed}
use Rattle.scratch.proofs.Lists.{map_alike, map_zip}
use Rattle.scratch.proofs.Places.{at_place, by_places}

pub map_twice : {A B C : Type 0} (f : A → B) (h : B → C) (xs : List A) → map h (map f xs) ≡ map (λ x. h (f x)) xs
map_twice f h [] = refl
map_twice f h (x ∷ xs) = ap (λ l. h (f x) ∷ l) (map_twice f h xs)

-- a map over a list beside one that is made from it
map_beside : {A C D : Type 0} (h : A → C) (k : A → C → D) (xs : List A) → map (λ p. k p.0 p.1) (zip xs (map h xs)) ≡ map (λ x. k x (h x)) xs
map_beside h k [] = refl
map_beside h k (x ∷ xs) = ap (λ l. k x (h x) ∷ l) (map_beside h k xs)

module _ (d : Netlist) (before : GateEntry → State) (t : ℕ) where
  abbrev current : GateEntry → Value
  current g = (due (before g) t).current

  -- the value of a net from the current values of the drivers
  pub net_is : (n : NetEntry) → net_from (map current d.gates) t n (driver_places d.gates n.name) ≡ net_at d before n t
  net_is n =
      ap (λ driven. cond n.is_input (stimulus n.points t) (net_of n.kind driven))
      (by_places (λ g. same_name g.output n.name) current Unknown 0 d.gates (map current d.gates) refl)

  -- the values of the nets
  pub values_are : (states : List State) (drivers : List (List ℕ)) → states ≡ map before d.gates → drivers ≡ map (λ n. driver_places d.gates n.name) d.nets →
      values_from d drivers (currents_of states t) t ≡ map (λ n. net_at d before n t) d.nets
  values_are states drivers are those =
      rw (are, those, map_twice before (λ s. (due s t).current) d.gates)
      (map_beside (λ n. driver_places d.gates n.name) (net_from (map current d.gates) t) d.nets
      ∙ map_alike (λ n. net_from (map current d.gates) t n (driver_places d.gates n.name)) (λ n. net_at d before n t) net_is d.nets)

  read_by : (values : List Value) (o : Option ℕ) → input_value values (option_map_or At o (Fixed Unknown)) ≡ option_map_or (λ place. unwrap_or (slice_get values place) Unknown) o Unknown
  read_by values None = refl
  read_by values (Some place) = refl

  -- the value that a gate input reads
  pub input_is : (values : List Value) → values ≡ map (λ n. net_at d before n t) d.nets → (terminal : Connection) → input_value values (input_of d terminal) ≡ terminal_at d before terminal t
  input_is values are (to_net name) =
      read_by values (position_from (λ n. same_name n.name name) 0 d.nets)
      ∙ at_place (λ n. same_name n.name name) (λ n. net_at d before n t) Unknown 0 d.nets values are
  input_is values are (to_constant v) = refl

  -- what is evaluated of a gate
  pub evaluation_is : (values : List Value) → values ≡ map (λ n. net_at d before n t) d.nets → (g : GateEntry) → evaluation_from values (cell_of d g) (before g) ≡ evaluation_at d before g t
  evaluation_is values are g =
      let same : map (input_value values) (map (input_of d) g.inputs) ≡ map (λ terminal. terminal_at d before terminal t) g.inputs =
      map_twice (input_of d) (input_value values) g.inputs
      ∙ map_alike (λ terminal. input_value values (input_of d terminal)) (λ terminal. terminal_at d before terminal t) (input_is values are) g.inputs in
      cc

  -- what is evaluated of the gates
  pub evaluations_are : (values : List Value) (cells : List CellRecord) (states : List State) → values ≡ map (λ n. net_at d before n t) d.nets → cells ≡ map (cell_of d) d.gates → states ≡ map before d.gates →
      evaluations_from values cells states ≡ map (λ g. evaluation_at d before g t) d.gates
  evaluations_are values cells states are those stand =
      rw (those, stand)
      (map_zip (cell_of d) before (evaluation_from values) d.gates
      ∙ map_alike (λ g. evaluation_from values (cell_of d g) (before g)) (λ g. evaluation_at d before g t) (evaluation_is values are) d.gates)

-- what holds of each state holds of the state of each task
pub task_states : (P : State → Type 0) (values : List Value) (cells : List CellRecord) (states : List State) → All P states → All (λ e. P e.state) (evaluations_from values cells states)
task_states P values [] states all = All-nil (λ e. P e.state)
task_states P values (cell ∷ cells) [] all = All-nil (λ e. P e.state)
task_states P values (cell ∷ cells) (s ∷ states) all =
    All-cons (λ e. P e.state) (evaluation_from values cell s) (evaluations_from values cells states) (All-head P s states all) (task_states P values cells states (All-tail P s states all))
