-- What is evaluated beside a former run, where a horizon is another.
use Rattle.std.proofs.Common.{◌≡◌, ◌<◌, ◌≤◌, ◌∙◌, ap, refl, Bool, true, false, ℕ, zero, suc, [], ◌++◌, map, cond, arith}
use Rattle.std.specs.Prelude.{◌&&◌, ◌||◌, nat_le, not}
use Rattle.std.specs.List.{filter}
use Rattle.std.proofs.lemmas.Bool.Decides.{nat_tests}
use Rattle.gatestep.specs.Record.{at_moment}
use Rattle.gatestep.specs.Step.{State, Evaluation}
use Rattle.design.specs.Netlist.{GateEntry, Netlist, with_horizon}
use Rattle.scratch.specs.Run.{evaluation_at, state_before}
use Rattle.scratch.specs.Work.{is_due, is_stirred, same_values, task_at, work_at}
use Rattle.scratch.specs.kept.Work.{work_from}
use Rattle.rundiff.specs.Dirty.{is_dirty, is_new, rework_at, rework_below, same_task}
use Rattle.scratch.specs.kept.HorizonLaws.{before_same, task_same}
use Rattle.scratch.specs.kept.Open.{all_from}
use Rattle.resim.proofs.Sweeps.{parted}

module _ (answer : Evaluation → ℕ → State) (d : Netlist) (h : ℕ) where
  states_alike : state_before answer (with_horizon d h) ≡ state_before answer d
  states_alike = λ i t g. before_same answer d h t g i

  task_alike : (g : GateEntry) (t : ℕ) → task_at answer (with_horizon d h) g t ≡ task_at answer d g t
  task_alike g t =
      let states : state_before answer (with_horizon d h) t ≡ state_before answer d t = λ i x. before_same answer d h t x i in
      task_same answer d h (state_before answer (with_horizon d h) t) g t ∙ ap (λ before. evaluation_at d before g t) states

  tasks_alike : task_at answer (with_horizon d h) ≡ task_at answer d
  tasks_alike = λ i g t. task_alike g t i

  stirred_alike : (g : GateEntry) (t : ℕ) → is_stirred answer (with_horizon d h) g t ≡ is_stirred answer d g t
  stirred_alike g zero = refl
  stirred_alike g (suc t) = λ i. not (same_values (tasks_alike i g (suc t)).inputs (tasks_alike i g t).inputs) || is_due (states_alike i (suc t) g) (suc t)

module _ (answer : Evaluation → ℕ → State) (old new : Netlist) where
  -- The new design with another horizon.
  module _ (h : ℕ) where
    new_dirty_alike : (g : GateEntry) (t : ℕ) → is_dirty answer old (with_horizon new h) g t ≡ is_dirty answer old new g t
    new_dirty_alike g t = λ i. not (nat_le t old.horizon) || (is_new old g || not (same_task (task_at answer old g t) (tasks_alike answer new h i g t)))

    new_alike_at : (t : ℕ) → rework_at answer old (with_horizon new h) t ≡ rework_at answer old new t
    new_alike_at t = λ i. at_moment t (map (λ g. tasks_alike answer new h i g t) (filter (λ g. new_dirty_alike g t i && stirred_alike answer new h g t i) new.gates))

    pub new_alike : (n : ℕ) → rework_below answer old (with_horizon new h) n ≡ rework_below answer old new n
    new_alike zero = refl
    new_alike (suc t) = λ i. new_alike t i ++ new_alike_at t i

  -- The old design with an earlier horizon.
  module _ (h : ℕ) (early : h ≤ old.horizon) where
    old_dirty_alike : (g : GateEntry) (t : ℕ) → t ≤ h → is_dirty answer (with_horizon old h) new g t ≡ is_dirty answer old new g t
    old_dirty_alike g t low =
        let here : nat_le t h ≡ nat_le t old.horizon = grind (arith, nat_tests) in
        λ i. not (here i) || (is_new old g || not (same_task (tasks_alike answer old h i g t) (task_at answer new g t)))

    old_alike_at : (t : ℕ) → t ≤ h → rework_at answer (with_horizon old h) new t ≡ rework_at answer old new t
    old_alike_at t low = λ i. at_moment t (map (λ g. task_at answer new g t) (filter (λ g. old_dirty_alike g t low i && is_stirred answer new g t) new.gates))

    pub old_alike : (n : ℕ) → n ≤ suc h → rework_below answer (with_horizon old h) new n ≡ rework_below answer old new n
    old_alike zero low = refl
    old_alike (suc t) low = λ i. old_alike t (omega arith) i ++ old_alike_at t (omega arith) i

  -- Past the old horizon.

  past_at : (t : ℕ) → old.horizon < t → rework_at answer old new t ≡ work_at answer new t
  past_at t past =
      let over : nat_le t old.horizon ≡ false = grind (arith, nat_tests) in
      rw over refl

  later_by : (t : ℕ) (b : Bool) → nat_le (suc old.horizon) t ≡ b → all_from (rework_at answer old new) (suc old.horizon) t ≡ work_from answer new (suc old.horizon) t →
      cond b (all_from (rework_at answer old new) (suc old.horizon) t ++ rework_at answer old new t) [] ≡ cond b (work_from answer new (suc old.horizon) t ++ work_at answer new t) []
  later_by t true later before = let le : suc old.horizon ≤ t = grind (arith, nat_tests) in λ i. before i ++ past_at t le i
  later_by t false soon before = refl

  later : (n : ℕ) → all_from (rework_at answer old new) (suc old.horizon) n ≡ work_from answer new (suc old.horizon) n
  later zero = refl
  later (suc t) = later_by t (nat_le (suc old.horizon) t) refl (later t)

  -- after the old horizon each gate that is stirred is evaluated
  pub past : (n : ℕ) → suc old.horizon ≤ n → rework_below answer old new n ≡ rework_below answer old new (suc old.horizon) ++ work_from answer new (suc old.horizon) n
  past n low = parted answer old new (suc old.horizon) n low ∙ ap (λ l. rework_below answer old new (suc old.horizon) ++ l) (later n)
