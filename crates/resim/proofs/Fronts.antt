-- A front does not depend on the horizons of the two designs, but for what the old run does behind an earlier one.
use Rattle.std.proofs.Common.{◌≡◌, ◌≤◌, ◌∙◌, sym, subst, refl, Bool, true, false, ℕ, List, arith}
use Rattle.std.specs.Prelude.{◌&&◌, ◌||◌, ◌==◌, ◌-◌, nat_le, not}
use Rattle.std.specs.List.{All, list_any}
use Rattle.std.specs.Option.{option_map_or}
use Rattle.std.proofs.lemmas.Bool.Decides.{nat_tests}
use Rattle.std.proofs.lemmas.List.Elements.{All-weaker}
use Rattle.fourstate.specs.Values.{same_value}
use Rattle.gatestep.specs.Step.{Evaluation, State, due, initial}
use Rattle.design.specs.Connections.{Connection, to_net, to_constant}
use Rattle.design.specs.Netlist.{Netlist, gate_named, has_point, with_horizon}
use Rattle.event_queue.specs.kept.Noted.{noted}
use Rattle.fourstate.specs.declared.value.Value.{Value}
use Rattle.waveform.specs.Entries.{same_state, standing}
use Rattle.waveform.specs.kept.Patches.{Keeps, PatchRecord}
use Rattle.scratch.specs.kept.HorizonLaws.{after_same, before_same, read_same, value_same}
use Rattle.scratch.specs.kept.Places.{Announces, Covers}
use Rattle.scratch.specs.Run.{state_after, state_before, terminal_at, value}
use Rattle.rundiff.specs.kept.Fronts.{AreDrivers, AreTraces, AreWaves, IsFront, fixed_in, held_in, live_in, named_state}
use Rattle.rundiff.specs.kept.Kept.{Agrees, IsClosed, IsSameNet, SameBefore, read_at}
use Rattle.rundiff.specs.kept.Noting.{IsNoted, input_moves, is_at_live, net_moves, old_moves, pends, wants_gate, wants_net}
use Rattle.rundiff.specs.kept.PlaceMaps.{kept_at}
use Rattle.rundiff.specs.kept.Places.{gate_at, is_live, net_at}
use Rattle.rundiff.specs.declared.front.Front.{Front}
use Rattle.rundiff.specs.declared.place_map.PlaceMap.{PlaceMap}
use Rattle.rundiff.proofs.Lists.{any_so}

-- Functions of a design that does not depend on its horizon.
module _ (answer : Evaluation → ℕ → State) (d : Netlist) (h : ℕ) where
  befores : state_before answer (with_horizon d h) ≡ state_before answer d
  befores = λ i t g. before_same answer d h t g i

  reads : read_at answer (with_horizon d h) ≡ read_at answer d
  reads = λ i connection t. (read_same answer d h (state_before answer (with_horizon d h) t) t connection ∙ (λ j. terminal_at d (befores j t) connection t)) i

  values : value answer (with_horizon d h) ≡ value answer d
  values = λ i n. value_same answer d h n i

  states : state_after answer (with_horizon d h) ≡ state_after answer d
  states = λ i g. after_same answer d h g i

  named : named_state answer (with_horizon d h) ≡ named_state answer d
  named = λ i name t. option_map_or (λ g. states i g t) (gate_named d name) initial

-- Tests that hold more often.
and_more : (a b c d : Bool) → (a ≡ true → c ≡ true) → (b ≡ true → d ≡ true) → (a && b) ≡ true → (c && d) ≡ true
and_more true b c d first second both = rw (first refl, second both) refl
and_more false b c d first second both = absurd (cc)

or_more : (a b d : Bool) → (b ≡ true → d ≡ true) → (a || b) ≡ true → (a || d) ≡ true
or_more true b d second either = refl
or_more false b d second either = second either

module _ (answer : Evaluation → ℕ → State) (old new : Netlist) (front : Front) (n : ℕ) where
  -- The new design with another horizon.
  module _ (h : ℕ) where
    new_waves : (waves : PlaceMap (PatchRecord Value)) → AreWaves answer old new waves n → AreWaves answer old (with_horizon new h) waves n
    new_waves waves are p low =
        subst (λ f. Keeps same_value standing (read_at answer old (to_net (net_at new p).name)) (f (net_at new p)) (kept_at waves p) n) (sym (values answer new h)) (are p low)

    new_traces : AreTraces answer old new front.traces n → AreTraces answer old (with_horizon new h) front.traces n
    new_traces are p low =
        subst (λ f. Keeps same_state due (named_state answer old (gate_at new p).name) (f (gate_at new p)) (kept_at front.traces p) n) (sym (states answer new h)) (are p low)

    new_agrees : (live : List ℕ → Bool) → Agrees answer old new live n → Agrees answer old (with_horizon new h) live n
    new_agrees live agree = record {
      states = subst (λ s. All (λ g. live g.output ≡ false → state_before answer old n g ≡ s n g) new.gates) (sym (befores answer new h)) agree.states;
      inputs = subst (λ r. All (λ g. live g.output ≡ false → All (λ connection. SameBefore (read_at answer old connection) (r connection) n) g.inputs) new.gates) (sym (reads answer new h)) agree.inputs;
      nets = subst (λ f. All (λ x. live x.name ≡ false → SameBefore (read_at answer old (to_net x.name)) (f x) n) new.nets) (sym (values answer new h)) agree.nets;
    }

    new_closed : (live : List ℕ → Bool) → IsClosed old new live → IsClosed old (with_horizon new h) live
    new_closed live closed = record {
      gates = closed.gates;
      nets = All-weaker (λ x. live x.name ≡ false → IsSameNet old new x) (λ x. live x.name ≡ false → IsSameNet old (with_horizon new h) x) (λ x same dead. let is = same dead in record { net = is.net; drivers = is.drivers }) new.nets closed.nets;
    }

    new_drivers : (live held : ℕ → Bool) → AreDrivers new live held → AreDrivers (with_horizon new h) live held
    new_drivers live held are = record { nets = are.nets; gates = are.gates; drivers = are.drivers }

    new_at_live : (live : ℕ → Bool) (c : Connection) → is_at_live (with_horizon new h) live c ≡ is_at_live new live c
    new_at_live live (to_net name) = refl
    new_at_live live (to_constant v) = refl

    new_inputs : (live : ℕ → Bool) (p t : ℕ) → input_moves answer old (with_horizon new h) live p t ≡ input_moves answer old new live p t
    new_inputs live p t = λ i. list_any (λ c. not (new_at_live live c i) && old_moves answer old new c t) (gate_at new p).inputs

    new_noted : (live held : ℕ → Bool) (events_at inputs_at nets_at : ℕ → List ℕ) →
        IsNoted answer old new live held held n events_at inputs_at nets_at n → IsNoted answer old (with_horizon new h) live held held n events_at inputs_at nets_at n
    new_noted live held events_at inputs_at nets_at is = record {
      events = subst (λ s. Covers (λ p t. held p && pends (s n (gate_at new p)) t) events_at n) (sym (befores answer new h)) is.events;
      inputs = subst (λ (moves : ℕ → ℕ → Bool). Announces (λ p t. held p && (t == 0 || moves p t)) inputs_at n) (λ i p t. sym (new_inputs live p t) i) is.inputs;
      nets = is.nets;
      no_early_event = is.no_early_event;
      no_early_input = is.no_early_input;
      no_early_net = is.no_early_net;
    }

    pub new_front : IsFront answer old new front n → IsFront answer old (with_horizon new h) front n
    new_front is = record {
      live = record {
        drivers = new_drivers (live_in front) (held_in front) is.live.drivers;
        base = new_closed (is_live new (fixed_in front)) is.live.base;
        fixed_live = is.live.fixed_live;
        closed = new_closed (is_live new (live_in front)) is.live.closed;
        agrees = new_agrees (is_live new (live_in front)) is.live.agrees;
        waves = new_waves front.waves is.live.waves;
        wave_ends = is.live.wave_ends;
        kept_waves = is.live.kept_waves;
        other_waves = is.live.other_waves;
      };
      traces = new_traces is.traces;
      trace_ends = is.trace_ends;
      own_traces = is.own_traces;
      other_traces = is.other_traces;
      awaits = new_noted (live_in front) (held_in front) (noted front.events) (noted front.inputs) (noted front.nets) is.awaits;
    }

  -- The old design with an earlier horizon.
  module _ (h : ℕ) (early : h ≤ old.horizon) where
    old_waves : (waves : PlaceMap (PatchRecord Value)) → AreWaves answer old new waves n → AreWaves answer (with_horizon old h) new waves n
    old_waves waves are p low =
        subst (λ r. Keeps same_value standing (r (to_net (net_at new p).name)) (value answer new (net_at new p)) (kept_at waves p) n) (sym (reads answer old h)) (are p low)

    old_traces : AreTraces answer old new front.traces n → AreTraces answer (with_horizon old h) new front.traces n
    old_traces are p low =
        subst (λ s. Keeps same_state due (s (gate_at new p).name) (state_after answer new (gate_at new p)) (kept_at front.traces p) n) (sym (named answer old h)) (are p low)

    old_agrees : (live : List ℕ → Bool) → Agrees answer old new live n → Agrees answer (with_horizon old h) new live n
    old_agrees live agree = record {
      states = subst (λ s. All (λ g. live g.output ≡ false → s n g ≡ state_before answer new n g) new.gates) (sym (befores answer old h)) agree.states;
      inputs = subst (λ r. All (λ g. live g.output ≡ false → All (λ connection. SameBefore (r connection) (read_at answer new connection) n) g.inputs) new.gates) (sym (reads answer old h)) agree.inputs;
      nets = subst (λ r. All (λ x. live x.name ≡ false → SameBefore (r (to_net x.name)) (value answer new x) n) new.nets) (sym (reads answer old h)) agree.nets;
    }

    old_closed : (live : List ℕ → Bool) → IsClosed old new live → IsClosed (with_horizon old h) new live
    old_closed live closed = record {
      gates = closed.gates;
      nets = All-weaker (λ x. live x.name ≡ false → IsSameNet old new x) (λ x. live x.name ≡ false → IsSameNet (with_horizon old h) new x) (λ x same dead. let is = same dead in record { net = is.net; drivers = is.drivers }) new.nets closed.nets;
    }

    -- what moves up to the earlier horizon moves
    moves_more : (c : Connection) (t : ℕ) → old_moves answer (with_horizon old h) new c t ≡ true → old_moves answer old new c t ≡ true
    moves_more c t moves =
        and_more (nat_le t h) (not (same_value (read_at answer old c t) (read_at answer old c (t - 1)))) (nat_le t old.horizon) (not (same_value (read_at answer old c t) (read_at answer old c (t - 1))))
        (λ low. grind (arith, nat_tests)) (λ moves. moves)
        (subst (λ r. (nat_le t h && not (same_value (r c t) (r c (t - 1)))) ≡ true) (reads answer old h) moves)

    inputs_more : (live : ℕ → Bool) (p t : ℕ) → input_moves answer (with_horizon old h) new live p t ≡ true → input_moves answer old new live p t ≡ true
    inputs_more live p t =
        any_so (λ c. not (is_at_live new live c) && old_moves answer (with_horizon old h) new c t) (λ c. not (is_at_live new live c) && old_moves answer old new c t)
        (λ c. and_more (not (is_at_live new live c)) (old_moves answer (with_horizon old h) new c t) (not (is_at_live new live c)) (old_moves answer old new c t) (λ at. at) (moves_more c t))
        (gate_at new p).inputs

    wants_gate_more : (live held : ℕ → Bool) (p t : ℕ) → wants_gate answer (with_horizon old h) new live held p t ≡ true → wants_gate answer old new live held p t ≡ true
    wants_gate_more live held p t =
        and_more (held p) (t == 0 || input_moves answer (with_horizon old h) new live p t) (held p) (t == 0 || input_moves answer old new live p t) (λ at. at)
        (or_more (t == 0) (input_moves answer (with_horizon old h) new live p t) (input_moves answer old new live p t) (inputs_more live p t))

    net_more : (p t : ℕ) → net_moves answer (with_horizon old h) new p t ≡ true → net_moves answer old new p t ≡ true
    net_more p t =
        or_more (has_point (net_at new p).points t) (old_moves answer (with_horizon old h) new (to_net (net_at new p).name) t) (old_moves answer old new (to_net (net_at new p).name) t)
        (moves_more (to_net (net_at new p).name) t)

    wants_net_more : (live : ℕ → Bool) (p t : ℕ) → wants_net answer (with_horizon old h) new live p t ≡ true → wants_net answer old new live p t ≡ true
    wants_net_more live p t =
        and_more (live p) (t == 0 || net_moves answer (with_horizon old h) new p t) (live p) (t == 0 || net_moves answer old new p t) (λ at. at)
        (or_more (t == 0) (net_moves answer (with_horizon old h) new p t) (net_moves answer old new p t) (net_more p t))

    old_noted : (live held : ℕ → Bool) (events_at inputs_at nets_at : ℕ → List ℕ) →
        IsNoted answer old new live held held n events_at inputs_at nets_at n → IsNoted answer (with_horizon old h) new live held held n events_at inputs_at nets_at n
    old_noted live held events_at inputs_at nets_at is = record {
      events = is.events;
      inputs = λ p t from wants. is.inputs p t from (wants_gate_more live held p t wants);
      nets = λ p t from wants. is.nets p t from (wants_net_more live p t wants);
      no_early_event = is.no_early_event;
      no_early_input = is.no_early_input;
      no_early_net = is.no_early_net;
    }

    pub old_front : IsFront answer old new front n → IsFront answer (with_horizon old h) new front n
    old_front is = record {
      live = record {
        drivers = is.live.drivers;
        base = old_closed (is_live new (fixed_in front)) is.live.base;
        fixed_live = is.live.fixed_live;
        closed = old_closed (is_live new (live_in front)) is.live.closed;
        agrees = old_agrees (is_live new (live_in front)) is.live.agrees;
        waves = old_waves front.waves is.live.waves;
        wave_ends = is.live.wave_ends;
        kept_waves = is.live.kept_waves;
        other_waves = is.live.other_waves;
      };
      traces = old_traces is.traces;
      trace_ends = is.trace_ends;
      own_traces = is.own_traces;
      other_traces = is.other_traces;
      awaits = old_noted (live_in front) (held_in front) (noted front.events) (noted front.inputs) (noted front.nets) is.awaits;
    }
