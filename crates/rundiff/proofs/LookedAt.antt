-- What holds of live nets and held gates at a moment, whether they are looked at or not.
use Rattle.std.proofs.Common.{◌≡◌, ℕ, zero, suc, ◌∙◌, sym, refl, Bool, true, false, List, Option, ◌⊎◌, inl, inr, arith, not, ◌&&◌}
use Rattle.std.proofs.lemmas.Bool.{and_parts, not-true}
use Rattle.fourstate.specs.declared.value.Value.{Value}
use Rattle.fourstate.specs.Values.{same_value}
use Rattle.gatestep.specs.Step.{State, Evaluation, due}
use Rattle.gatestep.specs.kept.Tasks.{IsTask, NothingDue}
use Rattle.design.specs.Connections.{to_net}
use Rattle.design.specs.kept.Lawful.{IsDesign}
use Rattle.design.specs.Netlist.{Netlist}
use Rattle.waveform.specs.Entries.{standing}
use Rattle.waveform.specs.kept.Patches.{Keeps, PatchRecord}
use Rattle.scratch.specs.kept.Places.{has}
use Rattle.scratch.specs.Run.{value}
use Rattle.scratch.specs.Work.{is_stirred}
use Rattle.scratch.proofs.Driven.{either}
use Rattle.scratch.proofs.Still.{Stays}
use Rattle.rundiff.specs.kept.Fronts.{GoesAlong, IsAlike, IsOwn}
use Rattle.rundiff.specs.kept.Kept.{read_at}
use Rattle.rundiff.specs.kept.Places.{gate_at, net_at}
use Rattle.rundiff.specs.kept.Steady.{IsSteady}
use Rattle.rundiff.proofs.Alike.{alike_grows}
use Rattle.rundiff.proofs.Calm.{all_noted, calm}
use Rattle.rundiff.proofs.Quiet.{AreLookedAt, all_looked, quiet_alike, quiet_wave}
use Rattle.rundiff.proofs.Lists.{not_so}

module _ (answer : Evaluation → ℕ → State) (old new : Netlist)
    (current : (e : Evaluation) (t : ℕ) → (answer e t).current ≡ (due e.state t).current) (pending : (e : Evaluation) (t : ℕ) → IsTask e → NothingDue t (answer e t))
    (is : IsDesign new) (live held : ℕ → Bool) (events_at inputs_at nets_at : ℕ → List ℕ) (looked : ℕ → Bool) where
  -- each live net is alike in both runs, or its readers are held from now on
  pub alike_all : (t : ℕ) → AreLookedAt answer old new live held events_at inputs_at nets_at t looked → (later : ℕ → Bool) → ((p : ℕ) → live p ≡ true → later p ≡ true) →
      ((p : ℕ) → looked p ≡ true → IsAlike answer old new later t p) → (p : ℕ) → live p ≡ true → IsAlike answer old new later t p
  alike_all zero are later grows found p on = found p (all_looked answer old new live held events_at inputs_at nets_at looked are p on)
  alike_all (suc r) are later grows found p on =
      either (looked p)
      (λ at. found p at)
      (λ off. alike_grows answer old new live later (suc r) p grows (quiet_alike answer old new current pending is live held events_at inputs_at nets_at r looked are p on off))

  -- the wave of a live net that is not looked at goes on
  pub wave_all : Stays same_value standing → (t : ℕ) → AreLookedAt answer old new live held events_at inputs_at nets_at t looked → (p : ℕ) → live p ≡ true → looked p ≡ false →
      (o : Option (PatchRecord Value)) → GoesAlong o t ⊎ IsOwn o →
      Keeps same_value standing (read_at answer old (to_net (net_at new p).name)) (value answer new (net_at new p)) o t →
      Keeps same_value standing (read_at answer old (to_net (net_at new p).name)) (value answer new (net_at new p)) o (suc t)
  wave_all law zero are p on off o kind kept =
      let no : true ≡ false = sym (all_looked answer old new live held events_at inputs_at nets_at looked are p on) ∙ off in absurd (cc)
  wave_all law (suc r) are p on off o kind kept = quiet_wave answer old new current pending is live held events_at inputs_at nets_at r looked are p on off law o kind kept

  -- a held gate that is not looked at is not stirred
  pub calm_all : (t : ℕ) → AreLookedAt answer old new live held events_at inputs_at nets_at t looked → (marked : ℕ → Bool) → ((p : ℕ) → looked p ≡ true → IsSteady answer new marked t p) →
      (q : ℕ) → held q ≡ true → has q (events_at t) ≡ false → has q (inputs_at t) ≡ false → marked q ≡ false → is_stirred answer new (gate_at new q) t ≡ false
  calm_all zero are marked steady q on no_event no_input off =
      let no : true ≡ false = sym (all_noted answer old new live held events_at inputs_at nets_at looked are q on) ∙ no_input in absurd (cc)
  calm_all (suc r) are marked steady q on no_event no_input off =
      calm answer old new current pending is live held events_at inputs_at nets_at r looked marked are steady q on no_event no_input off

  -- after moment 0 it has a trace of its own
  pub own_all : (t : ℕ) → AreLookedAt answer old new live held events_at inputs_at nets_at t looked → (q : ℕ) → held q ≡ true → has q (inputs_at t) ≡ false → (X : Type 0) → (t ≡ 0) ⊎ X → X
  own_all t are q on off X (inr own) = own
  own_all zero are q on off X (inl first) =
      let no : true ≡ false = sym (all_noted answer old new live held events_at inputs_at nets_at looked are q on) ∙ off in absurd (cc)
  own_all (suc r) are q on off X (inl first) = absurd (omega arith)

-- what is known of a held gate that is not looked at, by what was marked: it was held before, and nothing is noted for it
pub record IsPassed (held marked : ℕ → Bool) (events inputs : List ℕ) (q : ℕ) : Type 0 where
  pub held_before : held q ≡ true
  pub no_event : has q events ≡ false
  pub no_input : has q inputs ≡ false
  pub no_mark : marked q ≡ false

pub passed_by : (held kept marked all_marked chosen : ℕ → Bool) (events inputs : List ℕ) →
    ((q : ℕ) → held q ≡ true → has q events ≡ true → marked q ≡ true) → ((q : ℕ) → marked q ≡ true → all_marked q ≡ true) → ((q : ℕ) → kept q ≡ true → held q ≡ false → all_marked q ≡ true) →
    ((q : ℕ) → kept q ≡ true → all_marked q ≡ true → chosen q ≡ true) → ((q : ℕ) → kept q ≡ true → has q inputs ≡ true → chosen q ≡ true) →
    (q : ℕ) → (kept q && not (chosen q)) ≡ true → IsPassed held marked events inputs q
passed_by held kept marked all_marked chosen events inputs by_event more fresh by_mark by_input q on =
    let parts = and_parts (kept q) (not (chosen q)) on in
    let off : chosen q ≡ false = not-true (chosen q) parts.1 in
    let none : all_marked q ≡ false = not_so (all_marked q) (chosen q) (by_mark q parts.0) off in
    let unmarked : marked q ≡ false = not_so (marked q) (all_marked q) (more q) none in
    let before : held q ≡ true = was (held q) (all_marked q) (fresh q parts.0) none in
    record {
      held_before = before;
      no_event = not_so (has q events) (marked q) (by_event q before) unmarked;
      no_input = not_so (has q inputs) (chosen q) (by_input q parts.0) off;
      no_mark = unmarked;
    }
  where
    was : (a b : Bool) → (a ≡ false → b ≡ true) → b ≡ false → a ≡ true
    was true b says off = refl
    was false b says off = sym off ∙ says refl
