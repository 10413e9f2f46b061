-- The run of an old design by the places of a new one, as lines and as what is read of it.
use Rattle.std.proofs.Common.{◌≡◌, ◌<◌, ◌≤◌, ◌∙◌, ap, sym, refl, ℕ, suc, List, [], map, length, Option, option_map, slice_index_or}
use Rattle.std.specs.Prelude.{unwrap_or}
use Rattle.std.proofs.lemmas.Option.{slice_get-map, slice_get-get_or}
use Rattle.std.proofs.lemmas.List.Sums.{AllPass-from_list_all}
use Rattle.fourstate.specs.declared.value.Value.{Value}
use Rattle.fourstate.specs.declared.value.Value.TheVariants.{Unknown}
use Rattle.gatestep.specs.Step.{State, Evaluation, due}
use Rattle.gatestep.specs.kept.Tasks.{IsTask, NothingDue}
use Rattle.design.specs.kept.Lawful.{IsDesign}
use Rattle.design.specs.Netlist.{Netlist, is_readable}
use Rattle.waveform.specs.Changes.{wave_at, wave_changes_below}
use Rattle.waveform.specs.kept.Changes.{state_at, trace_below}
use Rattle.waveform.specs.Entries.{standing}
use Rattle.waveform.specs.kept.Timelines.{IsAlwaysSettled}
use Rattle.scratch.specs.kept.Kept.{input_of, input_value}
use Rattle.scratch.specs.Work.{inputs_at}
use Rattle.scratch.specs.declared.wiring.Input.TheVariants.{At}
use Rattle.rundiff.specs.kept.Fronts.{named_state}
use Rattle.rundiff.specs.kept.OldRuns.{AreOldRun, OldRunRecord}
use Rattle.rundiff.specs.kept.Places.{blank_gate, gate_at}
use Rattle.rundiff.proofs.ReadBefore.{all_read, stored_trace}
use Rattle.rundiff.proofs.Tasks.{old_settled}

module _ (answer : Evaluation → ℕ → State) (old new : Netlist) where
  module _ (run : OldRunRecord) (right : AreOldRun answer old new run) where
    -- an input reads the value of a wave among those of all nets
    read_wave : (t p : ℕ) → p < length run.waves → input_value (map (λ wave. wave_at wave t) run.waves) (At p) ≡ wave_at (slice_index_or run.waves p []) t
    read_wave t p low =
        ap (λ (o : Option Value). unwrap_or o Unknown)
        (slice_get-map (λ (wave : List (ℕ × Value)). wave_at wave t) run.waves p ∙ ap (option_map (λ (wave : List (ℕ × Value)). wave_at wave t)) (slice_get-get_or run.waves p [] low))

    -- what a gate reads by the waves is what it reads in the old run
    pub inputs_read : ((f : ℕ → Value) → IsAlwaysSettled standing f → (t n : ℕ) → t < n → wave_at (wave_changes_below f n) t ≡ f t) → IsDesign new → (p : ℕ) → p < length new.gates → (t : ℕ) → t ≤ old.horizon →
        map (λ input. input_value (map (λ wave. wave_at wave t) run.waves) input) (map (input_of new) (gate_at new p).inputs) ≡ inputs_at answer old (gate_at new p) t
    inputs_read law is p there t within =
        all_read answer old new run right law t within (input_value (map (λ wave. wave_at wave t) run.waves)) (read_wave t) (λ v. refl) (gate_at new p).inputs
        (AllPass-from_list_all (is_readable new) (gate_at new p).inputs (is.wiring p blank_gate there).inputs)

    -- a trace is that of the states that it gives
    pub trace_again : ((f : ℕ → State) → IsAlwaysSettled due f → (t n : ℕ) → t < n → state_at (trace_below f n) t ≡ f t) → ((e : Evaluation) (t : ℕ) → IsTask e → NothingDue t (answer e t)) →
        ((f g : ℕ → State) (n : ℕ) → ((t : ℕ) → t < n → f t ≡ g t) → trace_below f n ≡ trace_below g n) → IsDesign old → (p : ℕ) → p < length new.gates →
        slice_index_or run.traces p [] ≡ trace_below (state_at (slice_index_or run.traces p [])) (suc old.horizon)
    trace_again law pending same is p there =
        let name = (gate_at new p).name in let stored = stored_trace answer old new run right p there in
        stored ∙ same (named_state answer old name) (state_at (slice_index_or run.traces p [])) (suc old.horizon)
        (λ t low. sym (ap (λ (trace : List (ℕ × State)). state_at trace t) stored ∙ law (named_state answer old name) (old_settled answer old pending name is.gates) t (suc old.horizon) low))
