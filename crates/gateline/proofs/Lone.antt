-- A net that one driver alone gives its value.
use Rattle.std.proofs.Common.{◌≡◌, ◌<◌, ◌∙◌, ap, sym, subst, refl, cond, true, ℕ, suc, List, map, Option, Some, None, slice_get, get_or, All, arith}
use Rattle.std.specs.Option.{option_map}
use Rattle.std.proofs.lemmas.Option.{get_or_from_slice_get, slice_get-map, slice_get_within}
use Rattle.design.specs.Netlist.{GateEntry, NetEntry, Netlist, drivers_of, stimulus}
use Rattle.design.specs.kept.Lawful.{IsGate}
use Rattle.design.specs.kept.Places.{driver_places}
use Rattle.fourstate.specs.Nets.{net_of}
use Rattle.fourstate.specs.declared.value.Value.{Value}
use Rattle.gatestep.specs.Step.{State, Evaluation, due}
use Rattle.gatestep.specs.kept.Tasks.{IsTask, NothingDue}
use Rattle.gateline.proofs.Nets.{GivesStates, NetByPlaces, current_there, gives_current, value_by_traces}
use Rattle.gateline.specs.kept.Known.{AreTraced, IsTraced, currents_by}
use Rattle.scratch.proofs.NetSteps.{listed_at, lone_gives, lone_is}
use Rattle.scratch.proofs.Runs.{settled}
use Rattle.scratch.specs.Run.{state_after, state_before, value, wave_of}
use Rattle.scratch.specs.kept.Kept.{lone_driver}
use Rattle.scratch.specs.kept.Run.{trace_of}
use Rattle.waveform.specs.Changes.{wave_changes_below}
use Rattle.waveform.specs.kept.Currents.{GoesOn, currents}

-- the driver at the place of a net in the list of those that alone give a net its value
pub lone_at : (d : Netlist) (lone : List (Option ℕ)) (place : ℕ) (n : NetEntry) (k : ℕ) (o : Option ℕ) → lone ≡ map (lone_driver d) d.nets → slice_get d.nets place ≡ Some n →
    o ≡ get_or lone place o → o ≡ Some k → lone_driver d n ≡ Some k
lone_at d lone place n k o are there read is = listed_at d lone place n o are there (slice_get_within d.nets place n there) read ∙ is

-- functions that are the same below a moment have the same changes below it (`waveform::laws::same_changes`)
abbrev pub SameValues : Type 0
SameValues = (f g : ℕ → Value) (n : ℕ) → ((t : ℕ) → t < n → f t ≡ g t) → wave_changes_below f n ≡ wave_changes_below g n

-- a gate with its trace
pub record Traced (answer : Evaluation → ℕ → State) (d : Netlist) (line : List (ℕ × State)) : Type 0 where
  pub gate : GateEntry
  pub is : IsGate gate
  pub trace : line ≡ trace_of answer d gate

module _ (answer : Evaluation → ℕ → State) (d : Netlist) (are : All IsGate d.gates) where
  -- the gate whose trace is found
  pub traced_gate : (traces : List (List (ℕ × State))) (k : ℕ) (line : List (ℕ × State)) → IsTraced answer d traces k → slice_get traces k ≡ Some line → Traced answer d line
  traced_gate traces k line traced there = by (slice_get d.gates k) refl (sym (slice_get-map (trace_of answer d) d.gates k) ∙ sym traced ∙ there)
    where
      by : (o : Option GateEntry) → slice_get d.gates k ≡ o → option_map (trace_of answer d) o ≡ Some line → Traced answer d line
      by None at h = absurd (cc)
      by (Some g) at h =
          let read : get_or d.gates k g ≡ g = get_or_from_slice_get d.gates k g g at in
          record { gate = g; is = subst IsGate read (are k g (slice_get_within d.gates k g at)); trace = (cc) }

  -- the trace of a net's only driver is found where those of its drivers are
  pub lone_traced : (traces : List (List (ℕ × State))) (n : NetEntry) (k : ℕ) → lone_driver d n ≡ Some k → AreTraced answer d traces (driver_places d.gates n.name) → IsTraced answer d traces k
  lone_traced traces n k lone traced = (subst (AreTraced answer d traces) (lone_is d n k lone).alone traced).0

  module _ (pending : (e : Evaluation) (t : ℕ) → IsTask e → NothingDue t (answer e t)) (current : (e : Evaluation) (t : ℕ) → (answer e t).current ≡ (due e.state t).current)
      (gives : GivesStates) where
    pub goes_on : (line : List (ℕ × State)) → Traced answer d line → GoesOn line (suc d.horizon)
    goes_on line it =
        subst (λ l. GoesOn l (suc d.horizon)) (sym it.trace) (λ t within.
        gives_current answer d pending current gives it.gate it.is (suc t) within
        ∙ ap (λ s. (due s (suc t)).current) (sym (gives (state_after answer d it.gate) (settled answer d pending it.gate it.is) t (suc d.horizon) (omega arith))))

    -- the net's wave is that of what the driver gives
    pub lone_wave : SameValues → NetByPlaces d → (traces : List (List (ℕ × State))) (n : NetEntry) (k : ℕ) (line : List (ℕ × State)) → lone_driver d n ≡ Some k →
        AreTraced answer d traces (driver_places d.gates n.name) → slice_get traces k ≡ Some line → wave_changes_below (currents line) (suc d.horizon) ≡ wave_of answer d n
    lone_wave same by_places traces n k line lone traced there = same (currents line) (value answer d n) (suc d.horizon) (λ t within.
        sym (current_there traces k (Some line) t there)
        ∙ lone_gives d (currents_by traces t) t n k lone
        ∙ value_by_traces answer d pending current gives are traces t within by_places n traced)

-- the wave of an input
pub input_wave_is : (answer : Evaluation → ℕ → State) (d : Netlist) (n : NetEntry) → n.is_input ≡ true → wave_changes_below (stimulus n.points) (suc d.horizon) ≡ wave_of answer d n
input_wave_is answer d n input = sym (λ i. wave_changes_below (λ t. cond (input i) (stimulus n.points t) (net_of n.kind (map (λ g. (due (state_before answer d t g) t).current) (drivers_of d n.name)))) (suc d.horizon))
