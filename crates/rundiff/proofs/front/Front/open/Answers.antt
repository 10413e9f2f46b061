use Rattle.std.proofs.Common.{◌≡◌, ◌∙◌, ap, sym, subst, refl, ℕ, List, Bool, true, false, Option, Some, None, inl, arith, nat_cmp}
use Rattle.std.specs.BTreeSet.{contains}
use Rattle.std.specs.Option.{option_map_or}
use Rattle.std.proofs.lemmas.Bool.{or_left, both_ways}
use Rattle.fourstate.specs.Values.{same_value}
use Rattle.gatestep.specs.Step.{due}
use Rattle.event_queue.specs.kept.Noted.{noted}
use Rattle.design.specs.Connections.{to_net}
use Rattle.design.specs.Keys.{netlist}
use Rattle.waveform.specs.Entries.{same_state, standing}
use Rattle.waveform.specs.kept.Patches.{Keeps, PatchRecord}
use Rattle.scratch.specs.Run.{state_after, value}
use Rattle.rundiff.specs.kept.Fronts.{named_state}
use Rattle.rundiff.specs.kept.Places.{gate_at, is_among, net_at}
use Rattle.rundiff.specs.kept.Kept.{read_at}
use Rattle.rundiff.proofs.Awaited.{opened_noted}
use Rattle.rundiff.proofs.FirstLive.{first_closed}
use Rattle.rundiff.proofs.front.Front.open.Goals as goal

none_live : (live : ℕ → Bool) → ((p : ℕ) → live p ≡ false) → (o : Option ℕ) → option_map_or live o false ≡ false
none_live live none None = refl
none_live live none (Some p) = none p

keeps_first : {A : Type 0} (same : A → A → Bool) (drift : A → ℕ → A) (f g : ℕ → A) (o : Option (PatchRecord A)) → o ≡ None → Keeps same drift g f o 0
keeps_first {A} same drift f g o none = subst (λ (o : Option (PatchRecord A)). Keeps same drift g f o 0) (sym none) (λ u low. absurd (omega arith))

never_some : {X : Type 0} (o : Option X) (x : X) → o ≡ None → o ≡ Some x → ⊥
never_some o x none some = let no : ◌≡◌ {A = Option _} None (Some x) = sym none ∙ some in cc

pub hold-requires-clause-drivers : goal.hold-requires-clause-drivers
hold-requires-clause-drivers c =
    record {
      nets = λ p on. absurd (both_ways _ (c.new-live.ensures p) on);
      gates = λ p on. absurd (both_ways _ (c.new-held.ensures p) on);
      drivers = λ p low. c.new-held.ensures p ∙ sym (none_live (contains nat_cmp c.new-live.result) c.new-live.ensures _);
    }

pub returns-clause-front : goal.returns-clause-front
returns-clause-front c = λ answer.
    let old = netlist c.args.former.now.old.now in let new = netlist c.args.former.now.new.now in
    let later = contains nat_cmp c.hold.new.live in
    let places = c.in_ok-found.found.items in
    let covers : (p : ℕ) → is_among places p ≡ true → later p ≡ true = λ p among.
    c.in_ok-hold.ensures.live p
    ∙ or_left (is_among c.as_slice.result.now p) (contains nat_cmp c.new-live.result p) (ap (λ (l : List ℕ). is_among l p) c.as_slice.ensures.value ∙ among) in
    let fixed = contains nat_cmp c.in_ok-fixed.fixed in
    let fixed_is : (p : ℕ) → fixed p ≡ is_among places p = λ p. c.in_ok-fixed.ensures p ∙ ap (λ (l : List ℕ). is_among l p) c.as_slice-2.ensures.value in
    let no_wave = c.new-waves.ensures in
    let no_trace = c.new-traces.ensures in
    record {
      live = record {
        drivers = c.in_ok-hold.ensures.drivers;
        base =
            first_closed c.args.former.now.old.now c.args.former.now.new.now c.lawful.ensures.keys c.lawful-2.ensures.keys c.lawful-2.ensures.design.distinct_nets c.places_are_keys.ensures.nets
            c.names_are_keys.ensures.nets c.names_are_keys.ensures.drivers c.names_are_keys-2.ensures.drivers
            c.args.touched.now.nets.items c.args.touched.now.gates.items places c.requires c.in_ok-found.ensures.touched fixed
            (λ p among. fixed_is p ∙ among);
        fixed_live = λ p on. covers p (sym (fixed_is p) ∙ on);
        closed =
            first_closed c.args.former.now.old.now c.args.former.now.new.now c.lawful.ensures.keys c.lawful-2.ensures.keys c.lawful-2.ensures.design.distinct_nets c.places_are_keys.ensures.nets
            c.names_are_keys.ensures.nets c.names_are_keys.ensures.drivers c.names_are_keys-2.ensures.drivers
            c.args.touched.now.nets.items c.args.touched.now.gates.items places c.requires c.in_ok-found.ensures.touched later covers;
        agrees = record { states = λ k d low off. refl; inputs = λ k d low off i e within. tt; nets = λ k d low off. tt };
        waves = λ p low. keeps_first same_value standing (value answer new (net_at new p)) (read_at answer old (to_net (net_at new p).name)) _ (no_wave p);
        wave_ends = λ p patch is. absurd (never_some _ patch (no_wave p) is);
        kept_waves = λ p on. inl (inl (no_wave p));
        other_waves = λ p off. inl (no_wave p);
      };
      traces = λ p low. keeps_first same_state due (state_after answer new (gate_at new p)) (named_state answer old (gate_at new p).name) _ (no_trace p);
      trace_ends = λ p patch is. absurd (never_some _ patch (no_trace p) is);
      own_traces = λ p on. inl refl;
      other_traces = λ p off. inl (no_trace p);
      awaits =
          opened_noted answer old new later (contains nat_cmp c.hold.new.held) (noted c.new-events.result) (noted c.in_ok-inputs.inputs) (noted c.in_ok-nets.nets) c.in_ok-inputs.ensures.noted c.in_ok-nets.ensures.noted;
    }
