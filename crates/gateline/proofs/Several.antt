-- A net of several drivers, or of none.
use Rattle.std.proofs.Common.{◌≡◌, ◌<◌, ◌∙◌, ap, sym, subst, refl, cond, false, ℕ, suc, List, [], ◌∷◌, map, Option, Some, None, IfSome, slice_get, All}
use Rattle.std.proofs.lemmas.List.Elements.{All-cons, All-nil}
use Rattle.std.proofs.lemmas.Simd.{map-map}
use Rattle.design.specs.Netlist.{NetEntry, Netlist, stimulus}
use Rattle.design.specs.kept.Lawful.{IsGate}
use Rattle.design.specs.kept.Places.{driver_places}
use Rattle.fourstate.specs.Nets.{net_of}
use Rattle.fourstate.specs.declared.value.Value.{Value}
use Rattle.gatestep.specs.Step.{State, Evaluation, due}
use Rattle.gatestep.specs.kept.Tasks.{IsTask, NothingDue}
use Rattle.gateline.proofs.Inputs.{GivesValues}
use Rattle.gateline.proofs.Lone.{SameValues, goes_on, traced_gate}
use Rattle.gateline.proofs.Merging.{merged}
use Rattle.gateline.proofs.Nets.{GivesStates, NetByPlaces, value_by_traces}
use Rattle.gateline.specs.kept.Known.{AreTraced, IsTraceBelow, IsTraced, current_by, currents_by}
use Rattle.scratch.proofs.Runs.{LieBefore}
use Rattle.scratch.proofs.Lists.{map_alike}
use Rattle.scratch.specs.Run.{state_after, value, wave_of}
use Rattle.scratch.specs.kept.Kept.{net_from, values_at}
use Rattle.waveform.specs.Changes.{wave_at, wave_changes_below}
use Rattle.waveform.specs.Entries.{same_state}

module _ (answer : Evaluation → ℕ → State) (d : Netlist) (are : All IsGate d.gates)
    (pending : (e : Evaluation) (t : ℕ) → IsTask e → NothingDue t (answer e t)) (current : (e : Evaluation) (t : ℕ) → (answer e t).current ≡ (due e.state t).current)
    (gives : GivesStates) where
  module _ (lie : LieBefore same_state due) (traces : List (List (ℕ × State))) where
    -- a trace that is found is one up to the horizon
    pub found_below : (p : ℕ) (line : List (ℕ × State)) → IsTraced answer d traces p → slice_get traces p ≡ Some line → IsTraceBelow (suc d.horizon) line
    found_below p line traced there =
        let it = traced_gate answer d are traces p line traced there in
        record {
          ends = subst (All (λ e. e.0 < suc d.horizon)) (sym it.trace) (lie (state_after answer d it.gate) (suc d.horizon));
          goes_on = goes_on answer d are pending current gives line it;
        }

    one_below : (p : ℕ) → IsTraced answer d traces p → IfSome (slice_get traces p) (IsTraceBelow (suc d.horizon))
    one_below p traced = by (slice_get traces p) refl
      where
        by : (o : Option (List (ℕ × State))) → slice_get traces p ≡ o → IfSome o (IsTraceBelow (suc d.horizon))
        by None there = tt
        by (Some line) there = found_below p line traced there

    pub all_below : (places : List ℕ) → AreTraced answer d traces places → All (λ p. IfSome (slice_get traces p) (IsTraceBelow (suc d.horizon))) places
    all_below [] traced = All-nil (λ p. IfSome (slice_get traces p) (IsTraceBelow (suc d.horizon)))
    all_below (p ∷ places) traced =
        All-cons (λ p. IfSome (slice_get traces p) (IsTraceBelow (suc d.horizon))) p places (one_below p traced.0) (all_below places traced.1)

  -- the net's wave is that of what its drivers give, merged
  pub merged_wave : SameValues → GivesValues → NetByPlaces d → (traces : List (List (ℕ × State))) (n : NetEntry) (waves : List (List (ℕ × Value))) → n.is_input ≡ false →
      AreTraced answer d traces (driver_places d.gates n.name) →
      waves ≡ map (λ p. wave_changes_below (current_by traces p) (suc d.horizon)) (driver_places d.gates n.name) →
      wave_changes_below (merged n.kind waves) (suc d.horizon) ≡ wave_of answer d n
  merged_wave same gives_values by_places traces n waves driven traced are_waves = same (merged n.kind waves) (value answer d n) (suc d.horizon) (λ t within.
      let places = driver_places d.gates n.name in
      let values : map (λ w. wave_at w t) waves ≡ values_at (currents_by traces t) places =
      ap (map (λ w. wave_at w t)) are_waves
      ∙ map-map (λ w. wave_at w t) (λ p. wave_changes_below (current_by traces p) (suc d.horizon)) places
      ∙ map_alike (λ p. wave_at (wave_changes_below (current_by traces p) (suc d.horizon)) t) (λ p. current_by traces p t)
      (λ p. gives_values (current_by traces p) (λ u. refl) t (suc d.horizon) within) places in
      let whole : net_from (currents_by traces t) t n places ≡ merged n.kind waves t =
      ap (λ b. cond b (stimulus n.points t) (net_of n.kind (values_at (currents_by traces t) places))) driven
      ∙ ap (net_of n.kind) (sym values) in
      sym whole ∙ value_by_traces answer d pending current gives are traces t within by_places n traced)
