-- What a front keeps is right as it is after moments at which nothing happens to what is live.
use Rattle.std.proofs.Common.{◌≡◌, ℕ, suc, ◌<◌, ◌≤◌, ◌∙◌, ap, sym, refl, Bool, true, false, length, Option, inl, inr, arith, ⊎_elim, ◌&&◌}
use Rattle.scratch.proofs.Driven.{either}
use Rattle.rundiff.specs.kept.PlaceMaps.{kept_at}
use Rattle.std.specs.Option.{option_map_or}
use Rattle.std.proofs.lemmas.Bool.{and_parts}
use Rattle.event_queue.specs.kept.Noted.{noted}
use Rattle.fourstate.specs.declared.value.Value.{Value}
use Rattle.fourstate.specs.Values.{same_value}
use Rattle.gatestep.specs.Step.{State, Evaluation, due, initial}
use Rattle.gatestep.specs.kept.Tasks.{NothingDue, again}
use Rattle.design.specs.Connections.{to_net}
use Rattle.design.specs.kept.Lawful.{IsDesign}
use Rattle.design.specs.Netlist.{GateEntry, Netlist}
use Rattle.waveform.specs.Changes.{wave_changes_below}
use Rattle.waveform.specs.kept.Changes.{trace_below}
use Rattle.waveform.specs.Entries.{same_state, standing}
use Rattle.waveform.specs.kept.Patches.{Keeps, PatchRecord}
use Rattle.fourstate.specs.kept.ValueLaws.{same_self}
use Rattle.waveform.specs.kept.SampleLaws.{same_state_self}
use Rattle.scratch.specs.Run.{state_after, state_before, value}
use Rattle.scratch.proofs.Still.{Stays, none_due}
use Rattle.rundiff.specs.Dirty.{rework_below}
use Rattle.rundiff.specs.kept.Noting.{IsNoted, pends, wants_gate, wants_net}
use Rattle.rundiff.specs.kept.Fronts.{IsFree, IsFront, held_in, live_in, named_state}
use Rattle.rundiff.specs.kept.Places.{blank_gate, blank_net, gate_at, is_live, net_at}
use Rattle.rundiff.specs.kept.Kept.{IsClear, read_at}
use Rattle.rundiff.specs.declared.front.Front.{Front}
use Rattle.rundiff.proofs.ByPlace.{live_at}
use Rattle.rundiff.proofs.Known.{known_gate}
use Rattle.rundiff.proofs.Noted.{NoneBefore, later_announced}
use Rattle.rundiff.proofs.NamedLines.{still_line}
use Rattle.rundiff.proofs.Resting.{along_free, along_last, along_more, free_to, own_more}
use Rattle.rundiff.proofs.Skipping.{Jumped, jump}

-- what goes along with the former function goes on with it
free_on : {A : Type 0} (same : A → A → Bool) (drift : A → ℕ → A) (f g : ℕ → A) (r l : ℕ) (o : Option (PatchRecord A)) → IsFree o → Keeps same drift g f o (suc r) → r ≤ l → ((m : ℕ) → r < m → m < suc l → f m ≡ g m) → Keeps same drift g f o (suc l)
free_on same drift f g r l o free kept order alike = free_to same drift f g (suc r) (suc l) o free kept (omega arith) (λ m from until. alike m (omega arith) until)

module _ (answer : Evaluation → ℕ → State) (old new : Netlist)
    (current : (e : Evaluation) (t : ℕ) → (answer e t).current ≡ (due e.state t).current)
    (stays : (e : Evaluation) (t u : ℕ) → t < u → NothingDue u (answer e t) → answer (again e (answer e t)) u ≡ answer e t)
    (wave_law : Stays same_value standing) (trace_law : Stays same_state due) (is_old : IsDesign old) (is : IsDesign new)
    (front : Front) (r u l : ℕ) (right : IsFront answer old new front (suc r)) (clear : IsClear answer old new (is_live new (live_in front)) r u)
    (none : NoneBefore front u) (order : r ≤ l) (low : l < u) (within : u ≤ suc old.horizon) where
  jumped : (m : ℕ) → r ≤ m → m < suc l → Jumped answer old new current stays is (is_live new (live_in front)) right.live.closed r u clear m
  jumped m from until = jump answer old new current stays is (is_live new (live_in front)) right.live.closed r u clear m from (omega arith) right.live.agrees

  wave_still : (p : ℕ) → p < length new.nets → live_in front p ≡ true → wave_changes_below (value answer new (net_at new p)) (suc l) ≡ wave_changes_below (value answer new (net_at new p)) (suc r)
  wave_still p there on =
      let at = live_at new (live_in front) p is.distinct_nets there ∙ on in
      still_line same_value standing wave_law (value answer new (net_at new p)) r l order (λ m from until. (jumped m from until).values p blank_net there at) (λ m from until. same_self (value answer new (net_at new p) r))

  wave_on : (p : ℕ) → p < length new.nets → Keeps same_value standing (read_at answer old (to_net (net_at new p).name)) (value answer new (net_at new p)) (kept_at front.waves p) (suc l)
  wave_on p there =
      let f : ℕ → Value = value answer new (net_at new p) in
      let g : ℕ → Value = read_at answer old (to_net (net_at new p).name) in
      let o : Option (PatchRecord Value) = kept_at front.waves p in
      let at = live_at new (live_in front) p is.distinct_nets there in
      either (live_in front p)
      (λ on.
      ⊎_elim
      (λ along. free_on same_value standing f g r l o (along_free o (suc r) along) (right.live.waves p there) order
      (λ m from until.
      let had : f r ≡ g r = along_last same_value standing f g r o along (right.live.waves p there) in
      (jumped m (omega arith) until).values p blank_net there (at ∙ on) ∙ had ∙ sym (clear.waves p blank_net there (at ∙ on) m from (omega arith) (omega arith))))
      (λ own. own_more same_value standing f g (suc r) (suc l) o own (right.live.waves p there) (wave_still p there on))
      (right.live.kept_waves p on))
      (λ free.
      free_on same_value standing f g r l o (right.live.other_waves p free) (right.live.waves p there) order
      (λ m from until. sym ((jumped m (omega arith) until).agrees.nets p blank_net there (at ∙ free))))

  trace_still : (p : ℕ) → p < length new.gates → held_in front p ≡ true → trace_below (state_after answer new (gate_at new p)) (suc l) ≡ trace_below (state_after answer new (gate_at new p)) (suc r)
  trace_still p there on =
      let f : ℕ → State = state_after answer new (gate_at new p) in
      let at = sym (right.live.drivers.drivers p there) ∙ on in
      still_line same_state due trace_law f r l order (λ m from until. (jumped m from until).states p blank_gate there at)
      (λ m from until. ap (same_state (f r)) (none_due (f r) m (clear.due p blank_gate there at m from (omega arith))) ∙ same_state_self (f r))

  trace_on : (p : ℕ) → p < length new.gates → Keeps same_state due (named_state answer old (gate_at new p).name) (state_after answer new (gate_at new p)) (kept_at front.traces p) (suc l)
  trace_on p there =
      let gate = gate_at new p in
      let f : ℕ → State = state_after answer new gate in
      let g : ℕ → State = named_state answer old gate.name in
      let o : Option (PatchRecord State) = kept_at front.traces p in
      elim (held_in front p) as (λ b. held_in front p ≡ b → Keeps same_state due g f o (suc l)) [
        | true ↦ λ on. ⊎_elim (λ never. absurd (omega arith)) (λ own. own_more same_state due f g (suc r) (suc l) o own (right.traces p there) (trace_still p there on)) (right.own_traces p on)
        | false ↦ λ free.
            let off : is_live new (live_in front) gate.output ≡ false = sym (right.live.drivers.drivers p there) ∙ free in
            let found = known_gate old is_old gate (right.live.closed.gates p blank_gate there off) in
            free_on same_state due f g r l o (right.other_traces p free) (right.traces p there) order
            (λ m from until.
            sym ((jumped m (omega arith) until).agrees.states p blank_gate there off) ∙ sym (ap (λ (q : Option GateEntry). option_map_or (λ h. state_after answer old h m) q initial) found))
      ] refl

  -- what was noted is still noted, and early enough
  awaits_on : IsNoted answer old new (live_in front) (held_in front) (held_in front) (suc l) (noted front.events) (noted front.inputs) (noted front.nets) (suc l)
  awaits_on =
      record {
        events = λ p t from wanted.
            let gate = gate_at new p in
            let parts = and_parts (held_in front p) (pends (state_before answer new (suc l) gate) t) wanted in
            let there = right.live.drivers.gates p parts.0 in
            let same : state_before answer new (suc l) gate ≡ state_before answer new (suc r) gate = (jumped l order (omega arith)).states p blank_gate there (sym (right.live.drivers.drivers p there) ∙ parts.0) in
            right.awaits.events p t (omega arith) (ap (λ (b : Bool). b && pends (state_before answer new (suc r) gate) t) parts.0 ∙ ap (λ (s : State). pends s t) (sym same) ∙ parts.1);
        inputs =
            later_announced (wants_gate answer old new (live_in front) (held_in front)) (noted front.inputs) (suc r) (suc l) right.awaits.inputs (omega arith)
            (λ v early. none.inputs v (omega arith));
        nets = later_announced (wants_net answer old new (live_in front)) (noted front.nets) (suc r) (suc l) right.awaits.nets (omega arith) (λ v early. none.nets v (omega arith));
        no_early_event = λ v early. none.events v (omega arith);
        no_early_input = λ v early. none.inputs v (omega arith);
        no_early_net = λ v early. none.nets v (omega arith);
      }

  -- the front is right after the moments up to l
  pub front_on : IsFront answer old new front (suc l)
  front_on =
      record {
        live = record {
          drivers = right.live.drivers;
          base = right.live.base;
          fixed_live = right.live.fixed_live;
          closed = right.live.closed;
          agrees = (jumped l order (omega arith)).agrees;
          waves = wave_on;
          wave_ends = λ p patch at. let h = right.live.wave_ends p patch at in omega arith;
          kept_waves = λ p on. ⊎_elim (λ along. inl (along_more (kept_at front.waves p) (suc r) (suc l) (omega arith) along)) (λ own. inr own) (right.live.kept_waves p on);
          other_waves = right.live.other_waves;
        };
        traces = trace_on;
        trace_ends = λ p patch at. let h = right.trace_ends p patch at in omega arith;
        own_traces = λ p on. ⊎_elim (λ never. absurd (omega arith)) (λ own. inr own) (right.own_traces p on);
        other_traces = right.other_traces;
        awaits = awaits_on;
      }

  -- and nothing is evaluated at them
  pub idle_on : rework_below answer old new (suc l) ≡ rework_below answer old new (suc r)
  idle_on = (jumped l order (omega arith)).idle
