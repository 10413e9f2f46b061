use Rattle.std.proofs.Common.{◌≡◌, ◌∙◌, ap, sym, subst, suc, ℕ, List, true, false, not, Option, ◌⊎◌, inl, inr, ⊎_elim, arith, nat_cmp, ◌&&◌, ◌||◌}
use Rattle.rundiff.specs.kept.PlaceMaps.{kept_at}
use Rattle.std.specs.BTreeSet.{contains}
use Rattle.std.proofs.lemmas.Bool.{or_right, or_parts}
use Rattle.fourstate.specs.declared.value.Value.{Value}
use Rattle.fourstate.specs.Values.{same_value}
use Rattle.design.specs.Connections.{to_net}
use Rattle.design.specs.Keys.{netlist}
use Rattle.event_queue.specs.kept.Noted.{noted}
use Rattle.waveform.specs.Entries.{standing}
use Rattle.waveform.specs.kept.Patches.{Keeps, PatchRecord}
use Rattle.scratch.specs.Run.{value}
use Rattle.scratch.proofs.Driven.{either}
use Rattle.rundiff.specs.kept.Fronts.{GoesAlong, IsAlike, IsFree, IsOwn}
use Rattle.rundiff.specs.kept.Places.{is_among, net_at}
use Rattle.rundiff.specs.kept.Kept.{read_at}
use Rattle.rundiff.specs.kept.Steady.{IsSteady}
use Rattle.rundiff.proofs.Alike.{alike_grows}
use Rattle.rundiff.proofs.Awaiting.{noted_now}
use Rattle.rundiff.proofs.LookedAt.{IsPassed, alike_all, calm_all, own_all, passed_by, wave_all}
use Rattle.rundiff.proofs.NetsDone.{agrees_now, clean_now, closed_now, free_before, free_wave}
use Rattle.rundiff.proofs.Quiet.{AreLookedAt}
use Rattle.rundiff.proofs.Resting.{along_more, free_along}
use Rattle.rundiff.proofs.Lists.{not_so}
use Rattle.rundiff.proofs.Steps.{as_it_was}
use Rattle.rundiff.proofs.front.Front.look_at_nets.Goals as goal

pub choose_nets-requires-clause-there : goal.choose_nets-requires-clause-there
choose_nets-requires-clause-there g c = rw c.as_slice.ensures.value (λ q among. c.requires.front.live.drivers.gates q (c.in_ok-choose_gates.ensures.held q among))

pub choose_nets-requires-clause-live : goal.choose_nets-requires-clause-live
choose_nets-requires-clause-live g c =
    let drivers = c.requires.front.live.drivers in
    rw c.as_slice.ensures.value (λ q among. let on = c.in_ok-choose_gates.ensures.held q among in sym (drivers.drivers q (drivers.gates q on)) ∙ on)

pub add_changed-requires-clause-there : goal.add_changed-requires-clause-there
add_changed-requires-clause-there g c = rw c.as_slice-3.ensures.value (λ p among. c.requires.front.live.drivers.nets p (c.in_ok-choose_nets.ensures.live p among))

pub find_differing-requires-clause-there : goal.find_differing-requires-clause-there
find_differing-requires-clause-there g c = rw c.as_slice-4.ensures.value (λ p among. c.requires.front.live.drivers.nets p (c.in_ok-choose_nets.ensures.live p among))

pub find_differing-requires-clause-waves : goal.find_differing-requires-clause-waves
find_differing-requires-clause-waves g c = rw (c.as_slice-4.ensures.value, ← c.as_slice-2.ensures.value) c.in_ok-put_values.ensures.put

pub note_nets-requires-clause-there : goal.note_nets-requires-clause-there
note_nets-requires-clause-there g c =
    let holds = c.in_ok-hold_found.ensures in
    rw c.as_slice-5.ensures.value (λ p added.
    either (is_among c.choose_nets.new.nets.items p) (λ on. c.requires.front.live.drivers.nets p (c.in_ok-choose_nets.ensures.live p on)) (λ off. holds.drivers.nets p (holds.nets_live p off added)))

pub returns : goal.returns
returns g c =
    let answer = g.S.Stepper.answer in
    let current = g.met.S.Stepper.answer_current in
    let pending = g.met.S.Stepper.answer_pending in
    let old = netlist c.args.former.now.old.now in let new = netlist c.args.former.now.new.now in let t = c.args.t in
    let front = c.args.self.now in
    let before = c.requires.front in
    let is = c.lawful.ensures.design in
    let live = contains nat_cmp front.live in
    let held = contains nat_cmp front.held in
    let later = contains nat_cmp c.hold_found.new.live in
    let kept = contains nat_cmp c.hold_found.new.held in
    let first = c.in_ok-choose_gates.ensures in
    let chose = c.in_ok-choose_nets.ensures in
    let put = c.in_ok-put_values.ensures in
    let marks = c.in_ok-add_changed.ensures in
    let holds = c.in_ok-hold_found.ensures in
    let gates = c.in_ok-choose_gates-2.ensures in
    let notes = c.in_ok-note_nets.ensures in
    let looked = is_among c.choose_nets.new.nets.items in
    let marked = is_among c.add_changed.new.gates.items in
    let chosen = is_among c.choose_gates-2.new.gates.items in
    let found = is_among c.find_differing.new.found.items in
    let events_at = noted front.events in let inputs_at = noted front.inputs in let nets_at = noted front.nets in
    let are : AreLookedAt answer old new live held events_at inputs_at nets_at t looked =
    record { within = c.requires.within; drivers = before.live.drivers; closed = before.live.closed; agrees = before.live.agrees; awaits = before.awaits; noted = chose.noted; driven = λ q on there. chose.driven q (ap (λ (l : List ℕ). is_among l q) c.as_slice.ensures.value ∙ first.noted q on there) } in
    let grows : (p : ℕ) → live p ≡ true → later p ≡ true = λ p on. holds.live p ∙ or_right (found p) (live p) on in
    let alike : (p : ℕ) → live p ≡ true → IsAlike answer old new later t p =
    alike_all answer old new current pending is live held events_at inputs_at nets_at looked t are later grows
    (λ p at. alike_grows answer old new (λ q. found q || live q) later t p (λ q on. holds.live q ∙ on) (c.in_ok-find_differing.ensures.alike p (ap (λ (l : List ℕ). is_among l p) c.as_slice-4.ensures.value ∙ at))) in
    let steady : (p : ℕ) → looked p ≡ true → IsSteady answer new marked t p = λ p at. marks.steady p (ap (λ (l : List ℕ). is_among l p) c.as_slice-3.ensures.value ∙ at) in
    let passed : (q : ℕ) → (kept q && not (chosen q)) ≡ true → IsPassed held marked (events_at t) (inputs_at t) q =
    passed_by held kept marked (is_among c.hold_found.new.gates.items) chosen (events_at t) (inputs_at t) (λ q on there. marks.more q (first.noted q on there)) holds.gates_more holds.gates gates.more gates.noted in
    let was : ℕ → Option (PatchRecord Value) = kept_at front.waves in
    let now : ℕ → Option (PatchRecord Value) = kept_at c.put_values.new.waves in
    let Keep : ℕ → Option (PatchRecord Value) → ℕ → Type 0 = λ p o n. Keeps same_value standing (read_at answer old (to_net (net_at new p).name)) (value answer new (net_at new p)) o n in
    let others : (p : ℕ) → looked p ≡ false → now p ≡ was p = λ p off. put.others p (ap (λ (l : List ℕ). is_among l p) c.as_slice-2.ensures.value ∙ off) in
    let unlooked : (p : ℕ) → live p ≡ false → looked p ≡ false = λ p free. not_so (looked p) (live p) (chose.live p) free in
    record {
      live = record {
        drivers = holds.drivers;
        base = before.live.base;
        fixed_live = λ p fixed. grows p (before.live.fixed_live p fixed);
        closed = closed_now answer old new is t c.requires.within live later grows before.live.closed before.live.agrees alike;
        agrees = agrees_now answer old new is t c.requires.within live later grows before.live.closed before.live.agrees alike;
        waves = λ p low.
            as_it_was (λ q o. Keep q o (suc t)) was now looked p others
            (λ at. put.put p (ap (λ (l : List ℕ). is_among l p) c.as_slice-2.ensures.value ∙ at))
            (λ off.
            either (live p)
            (λ on. wave_all answer old new current pending is live held events_at inputs_at nets_at looked c.no_change.ensures t are p on off (was p) (before.live.kept_waves p on) (before.live.waves p low))
            (λ free. free_wave answer old new is t c.requires.within live later grows before.live.closed before.live.agrees alike p (was p) low free (before.live.other_waves p free) (before.live.waves p low)));
        wave_ends = put.ends;
        kept_waves = λ p lives.
            as_it_was (λ q o. GoesAlong o (suc t) ⊎ IsOwn o) was now looked p others
            (λ at. inr (put.own p (ap (λ (l : List ℕ). is_among l p) c.as_slice-2.ensures.value ∙ at)))
            (λ off.
            either (live p)
            (λ on. ⊎_elim (λ along. inl (along_more (was p) t (suc t) (omega arith) along)) (λ own. inr own) (before.live.kept_waves p on))
            (λ free. inl (free_along same_value standing (value answer new (net_at new p)) (read_at answer old (to_net (net_at new p).name)) t (was p) (before.live.other_waves p free) (before.live.waves p (holds.drivers.nets p lives)))));
        other_waves = λ p off.
            let free = (or_parts (found p) (live p) (sym (holds.live p) ∙ off)).1 in
            subst (λ (o : Option (PatchRecord Value)). IsFree o) (sym (others p (unlooked p free))) (before.live.other_waves p free);
      };
      clean = clean_now answer old new is t c.requires.within live later grows before.live.closed before.live.agrees alike kept holds.drivers;
      traces = before.traces;
      trace_ends = before.trace_ends;
      other_traces = λ p off.
          before.other_traces p (free_before answer old new is t c.requires.within live later grows before.live.closed before.live.agrees alike held kept before.live.drivers holds.drivers p off);
      chosen = gates.rising;
      chosen_held = gates.held;
      quiet = λ q low on.
          let facts = passed q on in
          calm_all answer old new current pending is live held events_at inputs_at nets_at looked t are marked steady q facts.held_before facts.no_event facts.no_input facts.no_mark;
      own_traces = λ q on.
          let facts = passed q on in
          own_all answer old new current pending is live held events_at inputs_at nets_at looked t are q facts.held_before facts.no_input (IsOwn (kept_at front.traces q)) (before.own_traces q facts.held_before);
      awaits =
          noted_now answer old new live later held (λ q. kept q && not (chosen q)) t grows (λ q on. (passed q on).held_before)
          front.events c.choose_gates.new.queue front.inputs c.choose_gates-2.new.queue front.nets c.choose_nets.new.queue c.note_nets.new.queue
          before.awaits first.queue gates.queue chose.queue (λ q on there. sym (passed q on).no_input ∙ there) notes.kept notes.early
          (λ p u on there after moves.
          notes.next p u
          (ap (λ (l : List ℕ). is_among l p) c.as_slice-5.ensures.value ∙ either (live p) (λ lives. holds.nets_more p (chose.noted p lives (there lives))) (λ free. holds.nets p on free)) after moves);
    }
