-- Off the dirty pairs the new run is the old one.
use Rattle.std.proofs.Common.{◌≡◌, ℕ, suc, ◌≤◌, List, false, not, cond, map, ap, ◌∙◌, All, refl, nat_le, ◌||◌}
use Rattle.std.proofs.lemmas.Bool.{le-leb, or_parts, and_parts, not-false}
use Rattle.fourstate.specs.Nets.{net_of}
use Rattle.fourstate.specs.declared.value.Value.{Value}
use Rattle.gatestep.specs.Step.{State, Evaluation, due}
use Rattle.design.specs.Netlist.{NetEntry, GateEntry, Netlist, drivers_of, stimulus}
use Rattle.waveform.specs.Entries.{same_state}
use Rattle.waveform.specs.kept.SampleLaws.{is_same_state, same_state_self}
use Rattle.scratch.specs.Run.{state_before, value}
use Rattle.rundiff.specs.Dirty.{same_task, is_new, is_dirty}
use Rattle.scratch.specs.Work.{same_values, task_at}
use Rattle.scratch.proofs.Still.{evaluation, same_values_equal, same_values_itself}
use Rattle.scratch.proofs.Runs.{map_where}

module _ (answer : Evaluation → ℕ → State) (old new : Netlist) where
  -- a pair that is not dirty: its task is the same in both runs
  pub clean_task : (g : GateEntry) (t : ℕ) → is_dirty answer old new g t ≡ false → task_at answer old g t ≡ task_at answer new g t
  clean_task g t h =
      let o = task_at answer old g t in let n = task_at answer new g t in
      let later = or_parts (not (nat_le t old.horizon)) (is_new old g || not (same_task o n)) h in
      let same = or_parts (is_new old g) (not (same_task o n)) later.1 in
      let parts = and_parts (same_state o.state n.state) (same_values o.inputs n.inputs) (not-false (same_task o n) same.1) in
      ap (λ (s : State). evaluation g s o.inputs) (is_same_state o.state n.state parts.0)
      ∙ ap (λ (vs : List Value). evaluation g n.state vs) (same_values_equal o.inputs n.inputs parts.1)

  -- so is its state afterwards
  pub clean_after : (g : GateEntry) (t : ℕ) → is_dirty answer old new g t ≡ false → state_before answer old (suc t) g ≡ state_before answer new (suc t) g
  clean_after g t h = ap (λ (e : Evaluation). answer e t) (clean_task g t h)

  -- a gate of both designs is not dirty where its state and its inputs are the same in both runs
  pub is_clean : (g : GateEntry) (t : ℕ) → t ≤ old.horizon → is_new old g ≡ false → state_before answer old t g ≡ state_before answer new t g →
      (task_at answer old g t).inputs ≡ (task_at answer new g t).inputs → is_dirty answer old new g t ≡ false
  is_clean g t within known state inputs =
      let n = task_at answer new g t in rw (le-leb t old.horizon within, known, state, inputs, same_state_self n.state, same_values_itself n.inputs) refl

  -- a net with the same drivers, in the same states, has the same value
  pub same_net : (n : NetEntry) (t : ℕ) → drivers_of old n.name ≡ drivers_of new n.name →
      All (λ g. state_before answer old t g ≡ state_before answer new t g) (drivers_of new n.name) → value answer old n t ≡ value answer new n t
  same_net n t drivers same =
      let P : GateEntry → Type 0 = λ g. state_before answer old t g ≡ state_before answer new t g in
      ap (λ (gs : List GateEntry). cond n.is_input (stimulus n.points t) (net_of n.kind (map (λ g. (due (state_before answer old t g) t).current) gs))) drivers
      ∙ ap (λ (vs : List Value). cond n.is_input (stimulus n.points t) (net_of n.kind vs))
      (map_where P (λ g. (due (state_before answer old t g) t).current) (λ g. (due (state_before answer new t g) t).current)
      (λ g is. ap (λ (s : State). (due s t).current) is) (drivers_of new n.name) same)
