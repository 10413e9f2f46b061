-- What the old run by the places of the new design says of its gates.
use Rattle.std.proofs.Common.{◌≡◌, ◌∙◌, ◌<◌, ◌≤◌, ap, sym, refl, ℕ, zero, suc, List, [], Bool, true, false, map, length, Option, Some, None, arith, All, is_some}
use Rattle.std.specs.List.{list_any, position_from, slice_index_or}
use Rattle.std.specs.Option.{option_map_or}
use Rattle.fourstate.specs.declared.value.Value.{Value}
use Rattle.fourstate.specs.declared.value.Value.TheVariants.{Unknown}
use Rattle.gatestep.specs.Step.{State, Evaluation, due, initial}
use Rattle.gatestep.specs.kept.Tasks.{IsTask, NothingDue}
use Rattle.catalog.proofs.ListLemmas.{position_find, position_within}
use Rattle.design.specs.Connections.{Connection, to_net, to_constant}
use Rattle.design.specs.kept.Lawful.{IsDesign}
use Rattle.design.specs.Names.{same_name}
use Rattle.design.specs.Netlist.{Netlist, is_readable}
use Rattle.design.proofs.NameLemmas.{name_is}
use Rattle.design.proofs.LookLemmas.{position_is_some}
use Rattle.waveform.specs.Changes.{wave_at, wave_changes_below}
use Rattle.waveform.specs.kept.Changes.{state_at, trace_below}
use Rattle.waveform.specs.Entries.{standing}
use Rattle.waveform.specs.kept.Timelines.{IsAlwaysSettled}
use Rattle.scratch.specs.kept.Kept.{input_of}
use Rattle.scratch.specs.Run.{state_after, state_before}
use Rattle.scratch.specs.declared.wiring.Input.{Input}
use Rattle.scratch.specs.declared.wiring.Input.TheVariants.{At, Fixed}
use Rattle.scratch.proofs.Moments.{map_twice}
use Rattle.scratch.proofs.Runs.{all_map, map_where}
use Rattle.rundiff.specs.Dirty.{is_new}
use Rattle.rundiff.specs.kept.Fronts.{named_state}
use Rattle.rundiff.specs.kept.Kept.{read_at}
use Rattle.rundiff.specs.kept.OldRuns.{AreOldRun, OldRunRecord, state_till}
use Rattle.rundiff.specs.kept.Places.{blank_net, gate_at, net_at}
use Rattle.rundiff.proofs.EachPlace.{holds_index}
use Rattle.rundiff.proofs.Known.{known_gate}
use Rattle.rundiff.proofs.Tasks.{old_settled}

no_position : {X : Type 0} (test : X → Bool) (start : ℕ) (xs : List X) → position_from test start xs ≡ None → list_any test xs ≡ false
no_position test start xs none = sym (position_is_some test start xs) ∙ ap (λ o. is_some o) none

module _ (answer : Evaluation → ℕ → State) (old new : Netlist) (run : OldRunRecord) (right : AreOldRun answer old new run) where
  -- what is so of the constants, and of each place that there is, is so of each input: one that reads a net reads one that
  -- there is
  module _ (P : Input → Type 0) (at_net : (p : ℕ) → p < length run.waves → P (At p)) (fixed : (v : Value) → P (Fixed v)) where
    placed_by : (name : List ℕ) (o : Option ℕ) → position_from (λ n. same_name n.name name) 0 new.nets ≡ o → P (option_map_or At o (Fixed Unknown))
    placed_by name None is = fixed Unknown
    placed_by name (Some p) is =
        at_net p (let low = position_within (λ n. same_name n.name name) p new.nets is in let count = right.wave_count in omega (arith, low, count))

    placed : (terminal : Connection) → P (input_of new terminal)
    placed (to_net name) = placed_by name (position_from (λ n. same_name n.name name) 0 new.nets) refl
    placed (to_constant v) = fixed v

    pub all_placed : (terminals : List Connection) → All P (map (input_of new) terminals)
    all_placed terminals = all_map P (input_of new) placed terminals

  -- inputs are read at a moment by the waves
  module _ (law : (f : ℕ → Value) → IsAlwaysSettled standing f → (t n : ℕ) → t < n → wave_at (wave_changes_below f n) t ≡ f t) (t : ℕ) (within : t ≤ old.horizon)
      (read : Input → Value) (at_net : (p : ℕ) → p < length run.waves → read (At p) ≡ wave_at (slice_index_or run.waves p []) t) (fixed : (v : Value) → read (Fixed v) ≡ v) where
    read_by : (name : List ℕ) (o : Option ℕ) → position_from (λ n. same_name n.name name) 0 new.nets ≡ o → is_readable new (to_net name) ≡ true →
        read (option_map_or At o (Fixed Unknown)) ≡ read_at answer old (to_net name) t
    read_by name None none there = let no : false ≡ true = sym (no_position (λ n. same_name n.name name) 0 new.nets none) ∙ there in absurd (cc)
    read_by name (Some p) is there =
        let low : p < length run.waves = let below = position_within (λ n. same_name n.name name) p new.nets is in let count = right.wave_count in omega (arith, below, count) in
        let stored = holds_index (λ p wave. wave ≡ wave_changes_below (read_at answer old (to_net (net_at new p).name)) (suc old.horizon)) run.waves p [] right.waves low in
        let named : (net_at new p).name ≡ name = name_is (net_at new p).name name (position_find (λ n. same_name n.name name) p new.nets blank_net is).1 in
        at_net p low ∙ ap (λ (wave : List (ℕ × Value)). wave_at wave t) stored ∙ law (read_at answer old (to_net (net_at new p).name)) (λ u. refl) t (suc old.horizon) (omega arith)
        ∙ ap (λ (n : List ℕ). read_at answer old (to_net n) t) named

    -- an input reads what its terminal reads
    reads_same : (terminal : Connection) → is_readable new terminal ≡ true → read (input_of new terminal) ≡ read_at answer old terminal t
    reads_same (to_net name) there = read_by name (position_from (λ n. same_name n.name name) 0 new.nets) refl there
    reads_same (to_constant v) there = fixed v

    pub all_read : (terminals : List Connection) → All (λ x. is_readable new x ≡ true) terminals → map read (map (input_of new) terminals) ≡ map (λ x. read_at answer old x t) terminals
    all_read terminals there =
        map_twice (input_of new) read terminals ∙ map_where (λ x. is_readable new x ≡ true) (λ x. read (input_of new x)) (λ x. read_at answer old x t) reads_same terminals there

  pub stored_trace : (p : ℕ) → p < length new.gates → slice_index_or run.traces p [] ≡ trace_below (named_state answer old (gate_at new p).name) (suc old.horizon)
  stored_trace p there =
      holds_index (λ p trace. trace ≡ trace_below (named_state answer old (gate_at new p).name) (suc old.horizon)) run.traces p [] right.traces
      (let count = right.trace_count in omega (arith, count, there))

  -- the state of a gate that the old design has
  module _ (law : (f : ℕ → State) → IsAlwaysSettled due f → (t n : ℕ) → t < n → state_at (trace_below f n) t ≡ f t) (pending : (e : Evaluation) (t : ℕ) → IsTask e → NothingDue t (answer e t))
      (is : IsDesign old) (p : ℕ) (there : p < length new.gates) (known : is_new old (gate_at new p) ≡ false) where
    pub state_read : (t : ℕ) → t ≤ suc old.horizon → state_till (slice_index_or run.traces p []) t ≡ state_before answer old t (gate_at new p)
    state_read zero within = refl
    state_read (suc t) within =
        let name = (gate_at new p).name in
        ap (λ (trace : List (ℕ × State)). state_at trace t) (stored_trace p there) ∙ law (named_state answer old name) (old_settled answer old pending name is.gates) t (suc old.horizon) (omega arith)
        ∙ ap (λ o. option_map_or (λ h. state_after answer old h t) o initial) (known_gate old is (gate_at new p) known)
