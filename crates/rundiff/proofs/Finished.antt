-- The lines of the new run, once the run was cleared of what edits touched, and what is live was put.
use Rattle.std.proofs.Common.{◌≡◌, ℕ, suc, ◌<◌, ◌∙◌, ap, sym, refl, List, Bool, true, false, cond, length, Option, Some, None, subst, ⊎_elim, IsSome, slice_get}
use Rattle.std.specs.List.{position_from}
use Rattle.std.specs.Option.{option_map, option_map_or}
use Rattle.std.proofs.lemmas.Bool.{false_from_ne_true}
use Rattle.fourstate.specs.declared.value.Value.{Value}
use Rattle.fourstate.specs.declared.value.Value.TheVariants.{Unknown}
use Rattle.fourstate.specs.Values.{same_value}
use Rattle.gatestep.specs.Step.{State, Evaluation, due, initial}
use Rattle.catalog.specs.kept.Catalog.{keys_of, place_of}
use Rattle.design.specs.Connections.{to_net}
use Rattle.design.specs.Keys.{Keyed, KeyedGate, entry_in, name_of, netlist}
use Rattle.design.specs.kept.Keys.{AreKeys, gate_by_key, net_by_key}
use Rattle.design.specs.kept.Lawful.{IsDesign}
use Rattle.design.specs.Names.{same_name}
use Rattle.design.specs.Netlist.{GateEntry, NetEntry, Netlist, net_named}
use Rattle.edits.specs.kept.Touched.{IsTouched, is_touched}
use Rattle.waveform.specs.Changes.{wave_changes_below}
use Rattle.waveform.specs.kept.Changes.{trace_below}
use Rattle.waveform.specs.Entries.{same_state, standing}
use Rattle.waveform.specs.kept.Tables.{line_at}
use Rattle.waveform.specs.Timelines.{changes_below}
use Rattle.waveform.specs.kept.Patches.{Keeps, PatchRecord}
use Rattle.scratch.specs.Run.{state_after, value, wave_of}
use Rattle.scratch.specs.kept.Run.{trace_of}
use Rattle.scratch.proofs.Driven.{either}
use Rattle.rundiff.specs.kept.Finishing.{AreCleared, ArePut, new_trace, new_wave}
use Rattle.rundiff.specs.kept.Fronts.{AreDrivers, AreTouched, IsFront, live_in, named_state}
use Rattle.rundiff.specs.kept.PlaceMaps.{kept_at}
use Rattle.rundiff.specs.kept.Kept.{IsSameNet, read_at}
use Rattle.rundiff.specs.kept.Places.{blank_gate, blank_net, gate_at, is_among, is_live, net_at}
use Rattle.rundiff.specs.declared.front.Front.{Front}
use Rattle.rundiff.proofs.Alike.{off_shrinks}
use Rattle.rundiff.proofs.ByKey.{IsGateAt, gate_placed, net_placed, some_mapped}
use Rattle.rundiff.proofs.ByPlace.{live_at}
use Rattle.rundiff.proofs.Known.{known_gate}
use Rattle.rundiff.proofs.NamedLines.{keeps_none}
use Rattle.rundiff.proofs.ReaderKeys.{placed}
use Rattle.rundiff.proofs.Lists.{not_so}

-- `waveform::laws::same_changes`
abbrev pub SameChanges : {A : Type 0} → (A → A → Bool) → (A → ℕ → A) → Type 0
SameChanges {A} same drift = (f g : ℕ → A) (n : ℕ) → ((t : ℕ) → t < n → f t ≡ g t) → changes_below same drift f n ≡ changes_below same drift g n

-- a net that both designs have, without a patch, has the wave of the old run
pub unmoved_wave : (answer : Evaluation → ℕ → State) (old new : Netlist) → new.horizon ≡ old.horizon → SameChanges same_value standing → (x : NetEntry) (o : Option (PatchRecord Value)) → o ≡ None →
    Keeps same_value standing (read_at answer old (to_net x.name)) (value answer new x) o (suc new.horizon) → net_named old x.name ≡ Some x → wave_of answer old x ≡ wave_of answer new x
unmoved_wave answer old new same_end law x o none kept named =
    ap (λ (h : ℕ). wave_changes_below (value answer old x) (suc h)) (sym same_end)
    ∙ law (value answer old x) (value answer new x) (suc new.horizon)
    (λ t within.
    sym (keeps_none same_value standing (value answer new x) (read_at answer old (to_net x.name)) (suc new.horizon) o none kept t within
    ∙ ap (λ (q : Option NetEntry). option_map_or (λ n. value answer old n t) q Unknown) named))

pub map_both : {X Y Z : Type 0} (f : X → Y) (h : Y → Z) (o : Option X) → option_map (λ x. h (f x)) o ≡ option_map h (option_map f o)
map_both f h None = refl
map_both f h (Some x) = refl

-- what stands under keys, where it is at a place that was put, or was not touched and has the line that it had
module _ {E L : Type 0} (line_before line_now : E → L) (before now : ℕ → Option E) (due : ℕ → Option L) (due_is : (key : ℕ) → due key ≡ option_map line_now (now key))
    (keys gone shown : List ℕ) (on : ℕ → Bool) (all : (p : ℕ) → is_among shown p ≡ on p) (stays : (key : ℕ) → is_touched gone key ≡ false → now key ≡ before key)
    (run copy made : List (Option L)) (stored : (key : ℕ) → line_at run key ≡ option_map line_before (before key)) (cleared : AreCleared gone run copy) (put : ArePut due keys shown copy made)
    (at_place : (key : ℕ) (x : E) → now key ≡ Some x → (p : ℕ) × (slice_get keys p ≡ Some key) × (is_touched gone key ≡ true → on p ≡ true) × (on p ≡ false → line_before x ≡ line_now x)) where
  kept : (key : ℕ) → line_at copy key ≡ due key → line_at made key ≡ due key
  kept key same = ⊎_elim (λ done. done) (λ stood. stood ∙ same) (put.others key)

  untouched : (key : ℕ) → is_touched gone key ≡ false → line_at copy key ≡ option_map line_before (now key)
  untouched key off = cleared key ∙ ap (λ (b : Bool). cond b None (line_at run key)) off ∙ stored key ∙ ap (option_map line_before) (sym (stays key off))

  by_entry : (key : ℕ) (o : Option E) → now key ≡ o → line_at made key ≡ due key
  by_entry key None found =
      kept key (either (is_touched gone key) (λ touched. cleared key ∙ ap (λ (b : Bool). cond b None (line_at run key)) touched) (λ off. untouched key off ∙ ap (option_map line_before) found)
      ∙ sym (due_is key ∙ ap (option_map line_now) found))
  by_entry key (Some x) found =
      let at = at_place key x found in
      either (on at.0)
      (λ yes. put.put at.0 key (all at.0 ∙ yes) at.1)
      (λ no.
      let off = false_from_ne_true (is_touched gone key) (λ touched. let yes = at.2 touched in cc) in
      kept key (untouched key off ∙ ap (option_map line_before) found ∙ ap (λ (w : L). Some w) (at.3 no) ∙ sym (due_is key ∙ ap (option_map line_now) found)))

  lines_right : (key : ℕ) → line_at made key ≡ due key
  lines_right key = by_entry key (now key) refl

module _ (answer : Evaluation → ℕ → State) (old new : Keyed) (old_is : IsDesign (netlist old)) (is : IsDesign (netlist new)) (keys : AreKeys new)
    (places_law : (key : ℕ) → IsSome (net_by_key new key) → position_from (λ n. same_name n.name (name_of new.nets key)) 0 (netlist new).nets ≡ place_of new.nets key)
    (same_end : (netlist new).horizon ≡ (netlist old).horizon) (front : Front) (right : IsFront answer (netlist old) (netlist new) front (suc (netlist new).horizon))
    (nets gates places : List ℕ) (touched : IsTouched old new nets gates) (are : AreTouched new nets gates places)
    (live held : ℕ → Bool) (drivers : AreDrivers (netlist new) live held) (more : (p : ℕ) → live_in front p ≡ true → live p ≡ true) (covers : (p : ℕ) → is_among places p ≡ true → live p ≡ true)
    (no_waves : (p : ℕ) → p < length (netlist new).nets → live p ≡ false → kept_at front.waves p ≡ None) (no_traces : (q : ℕ) → q < length (netlist new).gates → held q ≡ false → kept_at front.traces q ≡ None) where
  not_before : (p : ℕ) → live p ≡ false → live_in front p ≡ false
  not_before p off = not_so (live_in front p) (live p) (more p) off

  -- a net that is not live has the wave of the old run
  wave_same : SameChanges same_value standing → (p : ℕ) → p < length (netlist new).nets → live p ≡ false → wave_of answer (netlist old) (net_at (netlist new) p) ≡ wave_of answer (netlist new) (net_at (netlist new) p)
  wave_same law p low off =
      let x = net_at (netlist new) p in
      let same : IsSameNet (netlist old) (netlist new) x = right.live.closed.nets p blank_net low (live_at (netlist new) (live_in front) p is.distinct_nets low ∙ not_before p off) in
      unmoved_wave answer (netlist old) (netlist new) same_end law x (kept_at front.waves p) (no_waves p low off) (right.live.waves p low) same.net

  -- a gate that is not held has the trace of the old run
  trace_same : SameChanges same_state due → (p : ℕ) → p < length (netlist new).gates → held p ≡ false → trace_of answer (netlist old) (gate_at (netlist new) p) ≡ trace_of answer (netlist new) (gate_at (netlist new) p)
  trace_same law p low off =
      let x = gate_at (netlist new) p in
      let dead : is_live (netlist new) (live_in front) x.output ≡ false = off_shrinks (netlist new) (live_in front) live more x.output (sym (drivers.drivers p low) ∙ off) in
      let f : ℕ → State = state_after answer (netlist new) x in
      let g : ℕ → State = named_state answer (netlist old) x.name in
      let end : ℕ = suc (netlist new).horizon in
      ap (λ (h : ℕ). trace_below (state_after answer (netlist old) x) (suc h)) (sym same_end)
      ∙ law (state_after answer (netlist old) x) f end
      (λ t within.
      sym (keeps_none same_state due f g end _ (no_traces p low off) (right.traces p low) t within
      ∙ ap (λ (o : Option GateEntry). option_map_or (λ h. state_after answer (netlist old) h t) o initial) (known_gate (netlist old) old_is x (right.live.closed.gates p blank_gate low dead))))

  module _ (law : SameChanges same_value standing) (run copy made : List (Option (List (ℕ × Value)))) (stored : (key : ℕ) → line_at run key ≡ option_map (wave_of answer (netlist old)) (net_by_key old key))
      (cleared : AreCleared nets run copy) (shown : List ℕ) (all : (p : ℕ) → is_among shown p ≡ live p) (put : ArePut (new_wave answer new) (keys_of new.nets) shown copy made) where
    pub waves_right : (key : ℕ) → line_at made key ≡ new_wave answer new key
    waves_right =
        lines_right (wave_of answer (netlist old)) (wave_of answer (netlist new)) (net_by_key old) (net_by_key new) (new_wave answer new) (λ key. refl) (keys_of new.nets) nets shown live all
        touched.nets_stay run copy made stored cleared put
        (λ key n found.
        let one = net_placed new key n found in let p : ℕ = one.0 in
        (p, one.1.under, (λ on. covers p (are.of_nets key on p one.1.place)), λ off. subst (λ (x : NetEntry). wave_of answer (netlist old) x ≡ wave_of answer (netlist new) x) one.1.net (wave_same law p one.1.low off)))

  module _ (law : SameChanges same_state due) (run copy made : List (Option (List (ℕ × State)))) (stored : (key : ℕ) → line_at run key ≡ option_map (λ g. trace_of answer (netlist old) (entry_in old.nets g)) (gate_by_key old key))
      (cleared : AreCleared gates run copy) (shown : List ℕ) (all : (p : ℕ) → is_among shown p ≡ held p) (put : ArePut (new_trace answer new) (keys_of new.gates) shown copy made) where
    -- a touched gate drives a net that is live
    held_at : (key : ℕ) (g : KeyedGate) (p : ℕ) → is_touched gates key ≡ true → gate_by_key new key ≡ Some g → IsGateAt new key p g → held p ≡ true
    held_at key g p on found at =
        let driven = placed new.nets g.output at.output in
        let q : ℕ = driven.0 in
        let place : place_of new.nets g.output ≡ Some q = driven.1 in
        drivers.drivers p at.low
        ∙ ap (λ (h : GateEntry). is_live (netlist new) live h.output) at.gate
        ∙ ap (λ (o : Option ℕ). option_map_or live o false) (places_law g.output at.output ∙ place)
        ∙ covers q (are.of_gates key on g found q place)

    pub traces_right : (key : ℕ) → line_at made key ≡ new_trace answer new key
    traces_right =
        lines_right (trace_of answer (netlist old)) (trace_of answer (netlist new)) (λ key. option_map (entry_in old.nets) (gate_by_key old key)) (λ key. option_map (entry_in new.nets) (gate_by_key new key))
        (new_trace answer new) (λ key. map_both (entry_in new.nets) (trace_of answer (netlist new)) (gate_by_key new key)) (keys_of new.gates) gates shown held all touched.names_stay run copy made
        (λ key. stored key ∙ map_both (entry_in old.nets) (trace_of answer (netlist old)) (gate_by_key old key)) cleared put
        (λ key x named.
        let was = some_mapped (entry_in new.nets) (gate_by_key new key) x (sym named) in
        let one = gate_placed new keys key was.0 was.1 in let p : ℕ = one.0 in (
          p,
          one.1.under,
          (λ on. held_at key was.0 p on was.1 one.1),
          (λ off. subst (λ (y : GateEntry). trace_of answer (netlist old) y ≡ trace_of answer (netlist new) y) (one.1.gate ∙ sym was.2) (trace_same law p one.1.low off)),
        ))
