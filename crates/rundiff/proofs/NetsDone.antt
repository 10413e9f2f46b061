-- What holds once the nets of a moment are done.
use Rattle.std.proofs.Common.{◌≡◌, ℕ, suc, ◌<◌, ◌≤◌, ◌∙◌, sym, Bool, true, false, length, All, Option, ◌⊎◌, inl, inr}
use Rattle.std.proofs.lemmas.List.Elements.{All-from_get_or}
use Rattle.fourstate.specs.declared.value.Value.{Value}
use Rattle.fourstate.specs.Values.{same_value}
use Rattle.gatestep.specs.Step.{State, Evaluation}
use Rattle.design.specs.Connections.{to_net}
use Rattle.design.specs.kept.Lawful.{IsDesign}
use Rattle.design.specs.Netlist.{NetEntry, Netlist, reads}
use Rattle.waveform.specs.Entries.{standing}
use Rattle.waveform.specs.kept.Patches.{Keeps, PatchRecord}
use Rattle.scratch.specs.Run.{value}
use Rattle.rundiff.specs.Dirty.{is_dirty}
use Rattle.rundiff.specs.kept.Fronts.{AreDrivers, IsAlike, IsFree}
use Rattle.rundiff.specs.kept.Places.{blank_gate, blank_net, gate_at, is_live, net_at}
use Rattle.rundiff.specs.kept.Kept.{Agrees, IsClosed, read_at}
use Rattle.rundiff.proofs.Alike.{live_grows, off_shrinks}
use Rattle.rundiff.proofs.ByPlace.{live_at}
use Rattle.rundiff.proofs.Resting.{free_more}
use Rattle.rundiff.proofs.Settling.{not_dirty, settled, still_closed, untouched_same}
use Rattle.rundiff.proofs.Wired.{inputs_there}
use Rattle.rundiff.proofs.Lists.{not_so}

module _ (answer : Evaluation → ℕ → State) (old new : Netlist) (is : IsDesign new) (t : ℕ) (within : t ≤ old.horizon) (live later : ℕ → Bool)
    (grows : (p : ℕ) → live p ≡ true → later p ≡ true) (closed : IsClosed old new (is_live new live)) (agrees : Agrees answer old new (is_live new live) t)
    (alike : (p : ℕ) → live p ≡ true → IsAlike answer old new later t p) where
  abbrev Fact : NetEntry → Type 0
  Fact n = (read_at answer old (to_net n.name) t ≡ value answer new n t) ⊎ All (λ g. reads g n.name ≡ true → is_live new later g.output ≡ true) new.gates

  fact_of : (p : ℕ) → IsAlike answer old new later t p → Fact (net_at new p)
  fact_of p (inl same) = inl same
  fact_of p (inr readers) = inr (All-from_get_or (λ g. reads g (net_at new p).name ≡ true → is_live new later g.output ≡ true) new.gates blank_gate readers)

  all_alike : All (λ n. is_live new live n.name ≡ true → Fact n) new.nets
  all_alike = All-from_get_or (λ n. is_live new live n.name ≡ true → Fact n) new.nets blank_net (λ p low on. fact_of p (alike p (sym (live_at new live p is.distinct_nets low) ∙ on)))

  pub agrees_now : Agrees answer old new (is_live new later) (suc t)
  agrees_now = settled answer old new (inputs_there new is) t (is_live new live) (is_live new later) agrees.states closed (off_shrinks new live later grows) (λ name off. within) all_alike

  pub closed_now : IsClosed old new (is_live new later)
  closed_now = still_closed answer old new (inputs_there new is) t (is_live new live) (is_live new later) agrees.states closed (off_shrinks new live later grows) (λ name off. within) all_alike

  pub clean_now : (held : ℕ → Bool) → AreDrivers new later held → (p : ℕ) → p < length new.gates → held p ≡ false → is_dirty answer old new (gate_at new p) t ≡ false
  clean_now held drivers p low free =
      not_dirty answer old new (inputs_there new is) t (is_live new live) (is_live new later) agrees.states closed (off_shrinks new live later grows) (λ name off. within) all_alike
      p blank_gate low (sym (drivers.drivers p low) ∙ free)

  -- a net that is not live has the value of the old run
  pub free_wave : (p : ℕ) (o : Option (PatchRecord Value)) → p < length new.nets → live p ≡ false → IsFree o →
      Keeps same_value standing (read_at answer old (to_net (net_at new p).name)) (value answer new (net_at new p)) o t →
      Keeps same_value standing (read_at answer old (to_net (net_at new p).name)) (value answer new (net_at new p)) o (suc t)
  free_wave p o low free none kept =
      let n = net_at new p in
      let off : is_live new live n.name ≡ false = live_at new live p is.distinct_nets low ∙ free in
      free_more same_value standing (value answer new n) (read_at answer old (to_net n.name)) t o none kept
      (sym (untouched_same answer old new (is_live new live) t agrees.states n off (closed.nets p blank_net low off)))

  -- a gate that is not held now was not held before
  pub free_before : (held kept : ℕ → Bool) → AreDrivers new live held → AreDrivers new later kept → (p : ℕ) → kept p ≡ false → held p ≡ false
  free_before held kept before now p free =
      not_so (held p) (kept p)
      (λ on. let low = before.gates p on in now.drivers p low ∙ live_grows new live later grows (gate_at new p).output (sym (before.drivers p low) ∙ on)) free
