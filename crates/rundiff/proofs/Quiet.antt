-- What stays at a moment: live nets and held gates that are not looked at.
use Rattle.std.proofs.Common.{◌≡◌, ℕ, suc, ◌-◌, ◌<◌, ◌≤◌, ◌∙◌, ap, sym, refl, Bool, true, false, not, List, length, Option, Some, None, ◌⊎◌, ⊎_elim, inl, inr, arith, nat_eq, nat_le, ◌||◌, ◌==◌}
use Rattle.std.specs.Option.{option_map_or, ForSome}
use Rattle.std.proofs.lemmas.Bool.Decides.{nat_tests}
use Rattle.std.proofs.lemmas.Bool.{or_right, or_parts, and_from, le-leb, not-false}
use Rattle.std.proofs.lemmas.Option.{slice_get-get_or}
use Rattle.std.proofs.lemmas.List.Elements.{All-from_get_or}
use Rattle.fourstate.specs.declared.value.Value.{Value}
use Rattle.fourstate.specs.kept.ValueLaws.{is_same}
use Rattle.fourstate.specs.Values.{same_value}
use Rattle.gatestep.specs.Step.{State, Evaluation, due}
use Rattle.gatestep.specs.Tasks.{PendingFrom}
use Rattle.gatestep.specs.kept.Tasks.{IsTask, NothingDue}
use Rattle.design.specs.Connections.{Connection, to_net}
use Rattle.design.specs.kept.Lawful.{IsDesign}
use Rattle.design.specs.Names.{same_name}
use Rattle.design.specs.Netlist.{GateEntry, Netlist, has_point}
use Rattle.design.proofs.NameLemmas.{name_is}
use Rattle.waveform.specs.Entries.{standing}
use Rattle.waveform.specs.kept.Patches.{Keeps, PatchRecord}
use Rattle.scratch.specs.kept.Places.{has}
use Rattle.scratch.specs.Run.{evaluation_at, state_before, value}
use Rattle.scratch.specs.Work.{is_due}
use Rattle.scratch.proofs.Stirred.{find_there}
use Rattle.scratch.proofs.Still.{Stays, still_net, wave_stays}
use Rattle.scratch.proofs.Runs.{is_task}
use Rattle.rundiff.specs.kept.Fronts.{AreDrivers, GoesAlong, IsAlike, IsOwn}
use Rattle.rundiff.specs.kept.Kept.{Agrees, IsClosed, read_at}
use Rattle.rundiff.specs.kept.Noting.{IsNoted, net_moves, old_moves, pends}
use Rattle.rundiff.specs.kept.Places.{blank_gate, blank_net, gate_at, is_live, net_at}
use Rattle.rundiff.proofs.ByPlace.{live_at}
use Rattle.rundiff.proofs.Lists.{filter_where, not_so, off_by}
use Rattle.rundiff.proofs.Noted.{for_now}
use Rattle.rundiff.proofs.Resting.{along_free, along_last, free_more, own_more}
use Rattle.rundiff.proofs.Settling.{still_alike}

due_now : (p : Option (Value × ℕ)) (t : ℕ) → ForSome p (λ event. t ≤ event.1) → option_map_or (λ event. nat_le event.1 t) p false ≡ true → option_map_or (λ event. nat_eq event.1 t) p false ≡ true
due_now None t later on = absurd (cc)
due_now (Some event) t later on = let after = later event refl in grind (arith, nat_tests)

-- what is known when the nets to be looked at are known: all is right before t, and these are the live nets that are noted for
-- t, and the outputs of the held gates that are
pub record AreLookedAt (answer : Evaluation → ℕ → State) (old new : Netlist) (live held : ℕ → Bool) (events_at inputs_at nets_at : ℕ → List ℕ) (t : ℕ) (looked : ℕ → Bool) : Type 0 where
  pub within : t ≤ old.horizon
  pub drivers : AreDrivers new live held
  pub closed : IsClosed old new (is_live new live)
  pub agrees : Agrees answer old new (is_live new live) t
  pub awaits : IsNoted answer old new live held held t events_at inputs_at nets_at t
  pub noted : (p : ℕ) → live p ≡ true → has p (nets_at t) ≡ true → looked p ≡ true
  pub driven : (q : ℕ) → held q ≡ true → has q (events_at t) ≡ true → is_live new looked (gate_at new q).output ≡ true

-- at moment 0 all live nets are
pub all_looked : (answer : Evaluation → ℕ → State) (old new : Netlist) (live held : ℕ → Bool) (events_at inputs_at nets_at : ℕ → List ℕ) (looked : ℕ → Bool) →
    AreLookedAt answer old new live held events_at inputs_at nets_at 0 looked → (p : ℕ) → live p ≡ true → looked p ≡ true
all_looked answer old new live held events_at inputs_at nets_at looked are p on =
    are.noted p on (for_now nets_at p 0 (are.awaits.nets p 0 (omega arith) (and_from (live p) (0 == 0 || net_moves answer old new p 0) on refl)))

module _ (answer : Evaluation → ℕ → State) (old new : Netlist)
    (current : (e : Evaluation) (t : ℕ) → (answer e t).current ≡ (due e.state t).current) (pending : (e : Evaluation) (t : ℕ) → IsTask e → NothingDue t (answer e t))
    (is : IsDesign new) (live held : ℕ → Bool) (events_at inputs_at nets_at : ℕ → List ℕ) (r : ℕ) (looked : ℕ → Bool)
    (are : AreLookedAt answer old new live held events_at inputs_at nets_at (suc r) looked) where
  abbrev now : ℕ
  now = suc r

  pending_from : (g : ℕ) → g < length new.gates → PendingFrom now (state_before answer new now (gate_at new g))
  pending_from g low = λ event some.
      let late = pending (evaluation_at new (state_before answer new r) (gate_at new g) r) r (is_task answer new pending (gate_at new g) (is.gates g blank_gate low) r) event some in omega arith

  -- a held gate of which no event is noted for now has none due
  pub none_due : (q : ℕ) → held q ≡ true → has q (events_at now) ≡ false → is_due (state_before answer new now (gate_at new q)) now ≡ false
  none_due q on off =
      let s = state_before answer new now (gate_at new q) in
      not_so (is_due s now) (has q (events_at now))
      (λ at. are.awaits.events q now (omega arith) (and_from (held q) (pends s now) on (due_now s.pending now (pending_from q (are.drivers.gates q on)) at))) off

  -- what does not move in the old run stays there
  pub stays_in_old : (c : Connection) → old_moves answer old new c now ≡ false → read_at answer old c now ≡ read_at answer old c r
  stays_in_old c off =
      let before : now - 1 ≡ r = omega arith in
      let same = not-false (same_value (read_at answer old c now) (read_at answer old c (now - 1))) (off_by (nat_le now old.horizon) (not (same_value (read_at answer old c now) (read_at answer old c (now - 1)))) (le-leb now old.horizon are.within) off) in
      is_same (read_at answer old c now) (read_at answer old c (now - 1)) same ∙ ap (read_at answer old c) before

  -- Live nets that are not looked at.

  module _ (p : ℕ) (on : live p ≡ true) (off : looked p ≡ false) where
    there : p < length new.nets
    there = are.drivers.nets p on

    unmoved : net_moves answer old new p now ≡ false
    unmoved =
        not_so (net_moves answer old new p now) (looked p)
        (λ moves. are.noted p on (for_now nets_at p now (are.awaits.nets p now (omega arith) (and_from (live p) (now == 0 || net_moves answer old new p now) on (or_right (now == 0) (net_moves answer old new p now) moves))))) off

    pub quiet_old : read_at answer old (to_net (net_at new p).name) now ≡ read_at answer old (to_net (net_at new p).name) r
    quiet_old = stays_in_old (to_net (net_at new p).name) (or_parts (has_point (net_at new p).points now) (old_moves answer old new (to_net (net_at new p).name) now) unmoved).1

    quiet_driver : (k : ℕ) → k < length new.gates → same_name (gate_at new k).output (net_at new p).name ≡ true → is_due (state_before answer new now (gate_at new k)) now ≡ false
    quiet_driver k low drives =
        let named = name_is (gate_at new k).output (net_at new p).name drives in
        let holds : held k ≡ true = are.drivers.drivers k low ∙ ap (is_live new live) named ∙ live_at new live p is.distinct_nets there ∙ on in
        none_due k holds
        (not_so (has k (events_at now)) (looked p) (λ at. sym (live_at new looked p is.distinct_nets there) ∙ ap (is_live new looked) (sym named) ∙ are.driven k holds at) off)

    pub quiet_value : value answer new (net_at new p) now ≡ value answer new (net_at new p) r
    quiet_value =
        let P : GateEntry → Type 0 = λ g. is_due (state_before answer new now g) now ≡ false in
        still_net answer new current (net_at new p) r (or_parts (has_point (net_at new p).points now) (old_moves answer old new (to_net (net_at new p).name) now) unmoved).0
        (filter_where (λ g. same_name g.output (net_at new p).name) P new.gates
        (All-from_get_or (λ g. same_name g.output (net_at new p).name ≡ true → P g) new.gates blank_gate quiet_driver))

    -- it is alike in both runs, or its readers are held already
    pub quiet_alike : IsAlike answer old new live now p
    quiet_alike =
        ⊎_elim inl (λ all. inr (λ q low. all q blank_gate low))
        (still_alike answer old new (is_live new live) r (λ name out. are.within) are.agrees (net_at new p) (find_there new.nets p (net_at new p) is.distinct_nets (slice_get-get_or new.nets p blank_net there)) quiet_value (λ late. quiet_old))

    -- and its wave goes on
    pub quiet_wave : Stays same_value standing → (o : Option (PatchRecord Value)) → GoesAlong o now ⊎ IsOwn o →
        Keeps same_value standing (read_at answer old (to_net (net_at new p).name)) (value answer new (net_at new p)) o now →
        Keeps same_value standing (read_at answer old (to_net (net_at new p).name)) (value answer new (net_at new p)) o (suc now)
    quiet_wave law o kind kept = by kind
      where
        f : ℕ → Value
        f = value answer new (net_at new p)

        g : ℕ → Value
        g = read_at answer old (to_net (net_at new p).name)

        by : GoesAlong o now ⊎ IsOwn o → Keeps same_value standing g f o (suc now)
        by (inl along) =
            let had : f r ≡ g r = along_last same_value standing f g r o along kept in
            free_more same_value standing f g now o (along_free o now along) kept (quiet_value ∙ had ∙ sym quiet_old)
        by (inr own) = own_more same_value standing f g now (suc now) o own kept (wave_stays law answer new (net_at new p) r quiet_value)
