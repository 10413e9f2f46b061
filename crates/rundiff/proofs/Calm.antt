-- Held gates that are not looked at are not stirred.
use Rattle.std.proofs.Common.{◌≡◌, ℕ, suc, ◌-◌, ◌<◌, ◌∙◌, ap, sym, refl, Bool, true, false, not, List, length, Some, inl, inr, arith, All, slice_index_or, ◌&&◌, ◌||◌, ◌==◌}
use Rattle.std.specs.List.{list_any}
use Rattle.std.proofs.lemmas.List.Folds.{list_any_at}
use Rattle.std.proofs.lemmas.Bool.{or_right, and_from}
use Rattle.std.proofs.lemmas.List.Elements.{All-from_get_or}
use Rattle.gatestep.specs.Step.{State, Evaluation, due}
use Rattle.gatestep.specs.kept.Tasks.{IsTask, NothingDue}
use Rattle.design.specs.Connections.{Connection, to_net, to_constant}
use Rattle.design.specs.kept.Lawful.{IsDesign}
use Rattle.design.specs.Netlist.{NetEntry, Netlist, is_at_net, net_named, reads}
use Rattle.scratch.specs.kept.Places.{has}
use Rattle.scratch.specs.Run.{value}
use Rattle.scratch.specs.Work.{is_stirred}
use Rattle.scratch.proofs.Stirred.{same_self_name}
use Rattle.scratch.proofs.Runs.{map_where}
use Rattle.scratch.proofs.Still.{is_still}
use Rattle.scratch.proofs.Driven.{either}
use Rattle.rundiff.specs.kept.Kept.{read_at}
use Rattle.rundiff.specs.kept.Noting.{input_moves, is_at_live, old_moves}
use Rattle.rundiff.specs.kept.Places.{blank_gate, blank_net, gate_at, is_live, net_at}
use Rattle.rundiff.specs.kept.Steady.{IsSteady}
use Rattle.rundiff.proofs.ByPlace.{live_at}
use Rattle.rundiff.proofs.Noted.{for_now}
use Rattle.rundiff.proofs.Quiet.{AreLookedAt, none_due, quiet_value, stays_in_old}
use Rattle.rundiff.proofs.Settling.{untouched_same}
use Rattle.rundiff.proofs.Wired.{IsThere, inputs_there, named_in, reads_net}
use Rattle.rundiff.proofs.Lists.{not_so, off_by}

-- at moment 0 all held gates are noted
pub all_noted : (answer : Evaluation → ℕ → State) (old new : Netlist) (live held : ℕ → Bool) (events_at inputs_at nets_at : ℕ → List ℕ) (looked : ℕ → Bool) →
    AreLookedAt answer old new live held events_at inputs_at nets_at 0 looked → (q : ℕ) → held q ≡ true → has q (inputs_at 0) ≡ true
all_noted answer old new live held events_at inputs_at nets_at looked are q on = for_now inputs_at q 0 (are.awaits.inputs q 0 (omega arith) (and_from (held q) (0 == 0 || input_moves answer old new live q 0) on refl))

module _ (answer : Evaluation → ℕ → State) (old new : Netlist)
    (current : (e : Evaluation) (t : ℕ) → (answer e t).current ≡ (due e.state t).current) (pending : (e : Evaluation) (t : ℕ) → IsTask e → NothingDue t (answer e t))
    (is : IsDesign new) (live held : ℕ → Bool) (events_at inputs_at nets_at : ℕ → List ℕ) (r : ℕ) (looked marked : ℕ → Bool)
    (are : AreLookedAt answer old new live held events_at inputs_at nets_at (suc r) looked)
    (steady : (p : ℕ) → looked p ≡ true → IsSteady answer new marked (suc r) p)
    (q : ℕ) (on : held q ≡ true) (no_event : has q (events_at (suc r)) ≡ false) (no_input : has q (inputs_at (suc r)) ≡ false) (off : marked q ≡ false) where
  abbrev now : ℕ
  now = suc r

  low : q < length new.gates
  low = are.drivers.gates q on

  unmoved : input_moves answer old new live q now ≡ false
  unmoved =
      not_so (input_moves answer old new live q now) (has q (inputs_at now))
      (λ moves. for_now inputs_at q now (are.awaits.inputs q now (omega arith) (and_from (held q) (now == 0 || input_moves answer old new live q now) on (or_right (now == 0) (input_moves answer old new live q now) moves)))) no_input

  -- what an input at a net that is there reads
  abbrev Fact : NetEntry → Type 0
  Fact n = reads (gate_at new q) n.name ≡ true → (is_live new live n.name ≡ false → old_moves answer old new (to_net n.name) now ≡ false) → value answer new n now ≡ value answer new n r

  by_steady : (p : ℕ) → IsSteady answer new marked now p → reads (gate_at new q) (net_at new p).name ≡ true → value answer new (net_at new p) now ≡ value answer new (net_at new p) r
  by_steady p (inl same) reading = let before : now - 1 ≡ r = omega arith in same ∙ ap (value answer new (net_at new p)) before
  by_steady p (inr readers) reading = let no : true ≡ false = sym (readers q low reading) ∙ off in absurd (cc)

  fact_at : (p : ℕ) → p < length new.nets → Fact (net_at new p)
  fact_at p there reading free_moves =
      let n = net_at new p in
      either (live p)
      (λ lives.
      either (looked p)
      (λ at. by_steady p (steady p at) reading)
      (λ quiet. quiet_value answer old new current pending is live held events_at inputs_at nets_at r looked are p lives quiet))
      (λ free.
      let out : is_live new live n.name ≡ false = live_at new live p is.distinct_nets there ∙ free in
      sym (untouched_same answer old new (is_live new live) now are.agrees.states n out (are.closed.nets p blank_net there out))
      ∙ stays_in_old answer old new current pending is live held events_at inputs_at nets_at r looked are (to_net n.name) (free_moves out)
      ∙ are.agrees.nets p blank_net there out)

  facts : All Fact new.nets
  facts = All-from_get_or Fact new.nets blank_net fact_at

  -- the gate reads it
  abbrev IsRead : Connection → Type 0
  IsRead (to_net name) = reads (gate_at new q) name ≡ true
  IsRead (to_constant v) = Unit {0}

  stays : (c : Connection) → IsThere new c → IsRead c → (not (is_at_live new live c) && old_moves answer old new c now) ≡ false → read_at answer new c now ≡ read_at answer new c r
  stays (to_constant v) there among still = refl
  stays (to_net name) there among still =
      let n : NetEntry = there.0 in
      let found : net_named new name ≡ Some n = there.1 in
      let known = named_in new Fact name n facts found in
      let same : n.name ≡ name = known.1 in
      reads_net answer new name n now found
      ∙ known.0 (ap (reads (gate_at new q)) same ∙ among)
      (λ free.
      ap (λ (m : List ℕ). old_moves answer old new (to_net m) now) same
      ∙ off_by (not (is_live new live name)) (old_moves answer old new (to_net name) now) (ap not (ap (is_live new live) (sym same) ∙ free)) still)
      ∙ sym (reads_net answer new name n r found)

  -- a held gate that is not looked at is not stirred
  pub calm : is_stirred answer new (gate_at new q) now ≡ false
  calm =
      let g = gate_at new q in
      let moves : Connection → Bool = λ c. not (is_at_live new live c) && old_moves answer old new c now in
      is_still answer new g r
      (none_due answer old new current pending is live held events_at inputs_at nets_at r looked are q on no_event)
      (map_where (λ c. IsThere new c × IsRead c × (moves c ≡ false)) (λ c. read_at answer new c now) (λ c. read_at answer new c r) (λ c all. stays c all.0 all.1 all.2) g.inputs
      (λ i e within. (
        inputs_there new is q blank_gate low i e within,
        is_read i e within (slice_index_or g.inputs i e) refl,
        not_so (moves (slice_index_or g.inputs i e)) (list_any moves g.inputs) (list_any_at moves g.inputs i e within) unmoved,
      )))
    where
      is_read : (i : ℕ) (e : Connection) → i < length (gate_at new q).inputs → (c : Connection) → slice_index_or (gate_at new q).inputs i e ≡ c → IsRead c
      is_read i e within (to_constant v) at = tt
      is_read i e within (to_net name) at = list_any_at (is_at_net name) (gate_at new q).inputs i e within (ap (is_at_net name) at ∙ same_self_name name)
