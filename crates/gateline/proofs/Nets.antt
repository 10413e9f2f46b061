-- What a net has, by the traces of its drivers.
use Rattle.std.proofs.Common.{◌≡◌, ◌<◌, ◌∙◌, ap, sym, refl, cond, ℕ, suc, List, [], ◌∷◌, map, Option, Some, slice_get, get_or, unwrap_or, length, All, arith}
use Rattle.std.specs.Option.{option_map}
use Rattle.std.proofs.lemmas.List.{length-map}
use Rattle.std.proofs.lemmas.Option.{slice_get-map, slice_get_read, slice_get_within}
use Rattle.std.proofs.lemmas.Simd.{map-map}
use Rattle.design.specs.Netlist.{GateEntry, NetEntry, Netlist, stimulus}
use Rattle.design.specs.kept.Lawful.{IsGate}
use Rattle.design.specs.kept.Places.{driver_places}
use Rattle.fourstate.specs.Nets.{net_of}
use Rattle.fourstate.specs.declared.value.Value.{Value}
use Rattle.fourstate.specs.declared.value.Value.TheVariants.{Unknown}
use Rattle.gatestep.specs.Step.{State, Evaluation, due, initial}
use Rattle.gatestep.specs.kept.Tasks.{IsTask, NothingDue}
use Rattle.gateline.specs.kept.Known.{AreTraced, IsTraced, current_by, currents_by}
use Rattle.scratch.proofs.NetSteps.{drivers_at as drivers_there}
use Rattle.scratch.proofs.Runs.{map_where, settled}
use Rattle.scratch.specs.Run.{evaluation_at, net_at, state_after, state_before, value}
use Rattle.scratch.specs.kept.Kept.{net_from, values_at}
use Rattle.scratch.specs.kept.Run.{trace_of}
use Rattle.smallvec.specs.SmallVec.{SmallVec}
use Rattle.waveform.specs.Entries.{same_state}
use Rattle.waveform.specs.Timelines.{changes_below, value_by}
use Rattle.waveform.specs.kept.Currents.{currents}
use Rattle.waveform.specs.kept.Timelines.{IsAlwaysSettled}

-- the entries of a driver give its states (`waveform::laws::value_of_changes`)
abbrev pub GivesStates : Type 0
GivesStates = (f : ℕ → State) → IsAlwaysSettled due f → (t n : ℕ) → t < n → value_by due initial (changes_below same_state due f n) t ≡ f t

-- a net has by places what it has by names (`gateline::laws::net_by_places`)
abbrev pub NetByPlaces : Netlist → Type 0
NetByPlaces d =
    (before : GateEntry → State) (t : ℕ) (n : NetEntry) → net_from (map (λ g. (due (before g) t).current) d.gates) t n (driver_places d.gates n.name) ≡ net_at d before n t

-- what is given at a place by the trace there
pub current_there : (traces : List (List (ℕ × State))) (place : ℕ) (o : Option (List (ℕ × State))) (t : ℕ) → slice_get traces place ≡ o →
    current_by traces place t ≡ unwrap_or (option_map (λ trace. currents trace t) o) Unknown
current_there traces place o t there =
    ap (λ (o : Option Value). unwrap_or o Unknown) (slice_get-map (λ trace. currents trace t) traces place ∙ ap (option_map (λ trace. currents trace t)) there)

module _ (answer : Evaluation → ℕ → State) (d : Netlist) (pending : (e : Evaluation) (t : ℕ) → IsTask e → NothingDue t (answer e t)) where
  module _ (current : (e : Evaluation) (t : ℕ) → (answer e t).current ≡ (due e.state t).current) (gives : GivesStates) where
    -- what a driver gives up to the horizon, by its trace
    pub gives_current : (g : GateEntry) → IsGate g → (t : ℕ) → t < suc d.horizon → currents (trace_of answer d g) t ≡ (due (state_before answer d t g) t).current
    gives_current g is t within =
        ap (λ s. s.current) (gives (state_after answer d g) (settled answer d pending g is) t (suc d.horizon) within)
        ∙ current (evaluation_at d (state_before answer d t) g t) t

    module _ (are : All IsGate d.gates) (traces : List (List (ℕ × State))) (t : ℕ) (within : t < suc d.horizon) where
      one_at : (p : ℕ) → IsTraced answer d traces p → slice_get (currents_by traces t) p ≡ slice_get (map (λ g. (due (state_before answer d t g) t).current) d.gates) p
      one_at p traced =
          slice_get-map (λ trace. currents trace t) traces p
          ∙ ap (option_map (λ trace. currents trace t)) traced
          ∙ sym (slice_get-map (λ trace. currents trace t) (map (trace_of answer d) d.gates) p)
          ∙ ap (λ (l : List Value). slice_get l p)
          (map-map (λ trace. currents trace t) (trace_of answer d) d.gates
          ∙ map_where IsGate (λ g. currents (trace_of answer d g) t) (λ g. (due (state_before answer d t g) t).current) (λ g is. gives_current g is t within) d.gates are)

      all_at : (places : List ℕ) → AreTraced answer d traces places →
          values_at (currents_by traces t) places ≡ values_at (map (λ g. (due (state_before answer d t g) t).current) d.gates) places
      all_at [] traced = refl
      all_at (p ∷ places) traced =
          let one = ap (λ (o : Option Value). unwrap_or o Unknown) (one_at p traced.0) in
          λ i. one i ∷ all_at places traced.1 i

      -- the value of a net, by the traces of its drivers
      pub value_by_traces : NetByPlaces d → (n : NetEntry) → AreTraced answer d traces (driver_places d.gates n.name) →
          net_from (currents_by traces t) t n (driver_places d.gates n.name) ≡ value answer d n t
      value_by_traces by_places n traced =
          ap (λ vs. cond n.is_input (stimulus n.points t) (net_of n.kind vs)) (all_at (driver_places d.gates n.name) traced)
          ∙ by_places (state_before answer d t) t n

-- the drivers of the net at a place
pub drivers_at : (d : Netlist) (lists : List (SmallVec ℕ)) (place : ℕ) (n : NetEntry) (drivers : SmallVec ℕ) → map (λ places. places.items) lists ≡ map (λ n. driver_places d.gates n.name) d.nets →
    slice_get d.nets place ≡ Some n → drivers ≡ get_or lists place drivers → drivers.items ≡ driver_places d.gates n.name
drivers_at d lists place n drivers are there read =
    let many = simp length-map at (ap length are) in let within = slice_get_within d.nets place n there in
    drivers_there d lists place n drivers are there (slice_get_read lists (length lists) place drivers refl (omega arith) read)
