-- What a front keeps is right as it is after moments at which the live nets are inputs with the same stimulus as in the old design.
use Rattle.std.proofs.Common.{◌≡◌, ℕ, zero, suc, ◌+◌, ◌-◌, ◌<◌, ◌≤◌, ◌++◌, ◌∙◌, ap, sym, subst, Bool, true, false, cond, List, [], map, length, All, append-nil, ◌⊎◌, inl, arith, Option}
use Rattle.std.specs.Prelude.{◌&&◌, ◌||◌, ◌==◌, slice_index_or}
use Rattle.std.proofs.lemmas.List.Elements.{All-from_get_or}
use Rattle.std.proofs.lemmas.Bool.{and_parts}
use Rattle.fourstate.specs.declared.value.Value.{Value}
use Rattle.fourstate.specs.Nets.{net_of}
use Rattle.fourstate.specs.Values.{same_value}
use Rattle.gatestep.specs.Record.{at_moment}
use Rattle.gatestep.specs.Step.{State, Evaluation, due}
use Rattle.design.specs.Connections.{to_net}
use Rattle.design.specs.kept.Lawful.{IsDesign}
use Rattle.design.specs.Netlist.{GateEntry, NetEntry, Netlist, drivers_of, reads, stimulus}
use Rattle.waveform.specs.Entries.{same_state, standing}
use Rattle.waveform.specs.kept.Patches.{Keeps, PatchRecord}
use Rattle.waveform.proofs.Lists.{filter-none}
use Rattle.scratch.specs.kept.Places.{has}
use Rattle.scratch.specs.Run.{state_after, state_before, value}
use Rattle.scratch.specs.Work.{is_stirred, task_at}
use Rattle.scratch.proofs.Driven.{either}
use Rattle.rundiff.specs.Dirty.{is_dirty, rework_below, working_at}
use Rattle.rundiff.specs.kept.Fronts.{GoesAlong, IsFree, IsFront, IsTrace, IsWave, held_in, live_in, named_state}
use Rattle.rundiff.specs.kept.Inputs.{IsSameInput}
use Rattle.rundiff.specs.kept.Kept.{Agrees, read_at}
use Rattle.rundiff.specs.kept.Noting.{IsNoted, input_moves, net_moves, pends}
use Rattle.rundiff.specs.kept.PlaceMaps.{kept_at}
use Rattle.rundiff.specs.kept.Places.{blank_gate, blank_net, gate_at, is_live, net_at}
use Rattle.rundiff.specs.declared.front.Front.{Front}
use Rattle.rundiff.specs.declared.place_map.PlaceMap.{PlaceMap}
use Rattle.rundiff.proofs.ByPlace.{live_at}
use Rattle.rundiff.proofs.Resting.{along_more, free_along, free_state, free_to}
use Rattle.rundiff.proofs.Settling.{not_dirty, settled}
use Rattle.rundiff.proofs.Wired.{inputs_there, reads_net}

pub off_on : {Z : Type 0} (b : Bool) → b ≡ false → b ≡ true → Z
off_on b off on = let no : false ≡ true = sym off ∙ on in absurd (cc)

module _ (answer : Evaluation → ℕ → State) (old new : Netlist) (is_old : IsDesign old) (is : IsDesign new) (front : Front) (n u : ℕ) (right : IsFront answer old new front n)
    (free : (p : ℕ) → held_in front p ≡ false) (order : n < u) (within : u ≤ suc old.horizon)
    (inputs : (p : ℕ) → live_in front p ≡ true → IsSameInput old new p n u) where
  abbrev live : List ℕ → Bool
  live = is_live new (live_in front)

  -- no gate drives a live net
  undriven : All (λ g. live g.output ≡ false) new.gates
  undriven = All-from_get_or (λ g. live g.output ≡ false) new.gates blank_gate (λ k low. sym (right.live.drivers.drivers k low) ∙ free k)

  -- the value of an input is that of its stimulus
  of_input : (d : Netlist) (x : NetEntry) (m : ℕ) → x.is_input ≡ true → value answer d x m ≡ stimulus x.points m
  of_input d x m on =
      ap (λ (b : Bool). cond b (stimulus x.points m) (net_of x.kind (map (λ g. (due (state_before answer d m g) m).current) (drivers_of d x.name)))) on

  -- a live net has the same value in both runs
  live_same : (p : ℕ) → live_in front p ≡ true → (m : ℕ) → n ≤ m → m < u → read_at answer old (to_net (net_at new p).name) m ≡ value answer new (net_at new p) m
  live_same p on m from until =
      let one = inputs p on in
      reads_net answer old (net_at new p).name one.was m one.named ∙ of_input old one.was m one.was_input ∙ one.same m from until ∙ sym (of_input new (net_at new p) m one.now_input)

  abbrev IsAlike : ℕ → NetEntry → Type 0
  IsAlike m x = (read_at answer old (to_net x.name) m ≡ value answer new x m) ⊎ All (λ g. reads g x.name ≡ true → live g.output ≡ true) new.gates

  alike : (m : ℕ) → n ≤ m → m < u → All (λ x. live x.name ≡ true → IsAlike m x) new.nets
  alike m from until =
      All-from_get_or (λ x. live x.name ≡ true → IsAlike m x) new.nets blank_net (λ k low on. inl (live_same k (sym (live_at new (live_in front) k is.distinct_nets low) ∙ on) m from until))

  agrees_from : (i m : ℕ) → m ≡ n + i → m ≤ u → Agrees answer old new live m
  agrees_from zero m at until = let e : m ≡ n = omega arith in subst (Agrees answer old new live) (sym e) right.live.agrees
  agrees_from (suc i) zero at until = absurd (omega arith)
  agrees_from (suc i) (suc m) at until =
      settled answer old new (inputs_there new is) m live live (agrees_from i m (omega arith) (omega arith)).states right.live.closed (λ name off. off) (λ name off. omega arith)
      (alike m (omega arith) (omega arith))

  agrees_at : (m : ℕ) → n ≤ m → m ≤ u → Agrees answer old new live m
  agrees_at m from until = agrees_from (m - n) m (omega arith) until

  -- nothing is evaluated
  idle_at : (m : ℕ) → n ≤ m → m < u → working_at answer old new m ≡ []
  idle_at m from until =
      filter-none (λ g. is_dirty answer old new g m && is_stirred answer new g m) new.gates
      (λ k d low.
      let g = slice_index_or new.gates k d in
      let clean : is_dirty answer old new g m ≡ false =
      not_dirty answer old new (inputs_there new is) m live live (agrees_at m from (omega arith)).states right.live.closed (λ name off. off) (λ name off. omega arith)
      (alike m from until) k d low (undriven k d low) in
      ap (λ (b : Bool). b && is_stirred answer new g m) clean)

  idle_from : (i m : ℕ) → m ≡ n + i → m ≤ u → rework_below answer old new m ≡ rework_below answer old new n
  idle_from zero m at until = let e : m ≡ n = omega arith in ap (rework_below answer old new) e
  idle_from (suc i) zero at until = absurd (omega arith)
  idle_from (suc i) (suc m) at until =
      ap (λ (gs : List GateEntry). rework_below answer old new m ++ at_moment m (map (λ g. task_at answer new g m) gs)) (idle_at m (omega arith) (omega arith))
      ∙ append-nil (rework_below answer old new m) ∙ idle_from i m (omega arith) (omega arith)

  pub leap_idle : rework_below answer old new u ≡ rework_below answer old new n
  leap_idle = idle_from (u - n) u (omega arith) (omega arith)

  pub leap_agrees : Agrees answer old new live u
  leap_agrees = agrees_at u (omega arith) (omega arith)

  net_same : (p : ℕ) → p < length new.nets → (m : ℕ) → n ≤ m → m < u → value answer new (net_at new p) m ≡ read_at answer old (to_net (net_at new p).name) m
  net_same p low m from until =
      either (live_in front p)
      (λ on. sym (live_same p on m from until))
      (λ off. sym ((agrees_at (suc m) (omega arith) (omega arith)).nets p blank_net low (live_at new (live_in front) p is.distinct_nets low ∙ off)))

  pub leap_trace : (p : ℕ) → p < length new.gates → IsTrace answer old new front.traces p u
  leap_trace p low =
      free_to same_state due (state_after answer new (gate_at new p)) (named_state answer old (gate_at new p).name) n u (kept_at front.traces p) (right.other_traces p (free p)) (right.traces p low) (omega arith)
      (λ m from until. free_state answer old new live m is_old right.live.closed (agrees_at (suc m) (omega arith) (omega arith)) p low (undriven p blank_gate low))

  -- the waves, where those of live nets are left
  module _ (waves : PlaceMap (PatchRecord Value)) (left : (p : ℕ) → live_in front p ≡ true → IsFree (kept_at waves p))
      (others : (p : ℕ) → live_in front p ≡ false → kept_at waves p ≡ kept_at front.waves p)
      (made : (p : ℕ) → (f g : ℕ → Value) → Keeps same_value standing g f (kept_at front.waves p) n → Keeps same_value standing g f (kept_at waves p) n) where
    pub leap_free : (p : ℕ) → IsFree (kept_at waves p)
    leap_free p =
        either (live_in front p)
        (λ on. left p on)
        (λ off. subst (λ (o : Option (PatchRecord Value)). IsFree o) (sym (others p off)) (right.live.other_waves p off))

    kept_now : (p : ℕ) → p < length new.nets → IsWave answer old new waves p n
    kept_now p low = made p (value answer new (net_at new p)) (read_at answer old (to_net (net_at new p).name)) (right.live.waves p low)

    pub leap_wave : (p : ℕ) → p < length new.nets → IsWave answer old new waves p u
    leap_wave p low =
        free_to same_value standing (value answer new (net_at new p)) (read_at answer old (to_net (net_at new p).name)) n u (kept_at waves p) (leap_free p) (kept_now p low) (omega arith) (net_same p low)

    pub leap_along : (p : ℕ) → live_in front p ≡ true → GoesAlong (kept_at waves p) u
    leap_along p on =
        let low = right.live.drivers.nets p on in
        along_more (kept_at waves p) (suc n) u (omega arith)
        (free_along same_value standing (value answer new (net_at new p)) (read_at answer old (to_net (net_at new p).name)) n (kept_at waves p) (leap_free p) (kept_now p low))

  -- what is noted: the live nets for the moment itself
  pub leap_noted : (events_at inputs_at nets_at : ℕ → List ℕ) → ((t : ℕ) → events_at t ≡ []) → ((t : ℕ) → inputs_at t ≡ []) →
      ((p : ℕ) → live_in front p ≡ true → has p (nets_at u) ≡ true) → ((t : ℕ) → t < u → nets_at t ≡ []) →
      IsNoted answer old new (live_in front) (held_in front) (held_in front) u events_at inputs_at nets_at u
  leap_noted events_at inputs_at nets_at no_event no_input noted early =
      record {
        events = λ p t from h. off_on (held_in front p) (free p) (and_parts (held_in front p) (pends (state_before answer new u (gate_at new p)) t) h).0;
        inputs = λ p t from h. off_on (held_in front p) (free p) (and_parts (held_in front p) (t == 0 || input_moves answer old new (live_in front) p t) h).0;
        nets = λ p t from h. (u, omega arith, from, noted p (and_parts (live_in front p) (t == 0 || net_moves answer old new p t) h).0);
        no_early_event = λ t low. no_event t;
        no_early_input = λ t low. no_input t;
        no_early_net = early;
      }
