-- The answers of the stirred gates.
use Rattle.std.proofs.Common.{◌≡◌, ◌∙◌, ap, sym, refl, ℕ, ◌+◌, Bool, List, [], ◌∷◌, map, Some, slice_get}
use Rattle.std.specs.List.{filter}
use Rattle.gatestep.specs.Record.{at_moment}
use Rattle.gatestep.specs.Step.{State, Evaluation}
use Rattle.design.specs.Netlist.{GateEntry, Netlist}
use Rattle.design.proofs.EntryLemmas.{filter_filter}
use Rattle.scratch.specs.kept.Open.{open_work_at}
use Rattle.scratch.specs.kept.Places.{passing}
use Rattle.scratch.specs.Run.{state_before}
use Rattle.scratch.specs.Work.{is_stirred, stirred_at, task_at}
use Rattle.scratch.proofs.Lists.{same_put}
use Rattle.scratch.proofs.Moments.{map_twice}
use Rattle.scratch.proofs.Passing.{slices}

-- the answers to the tasks of a moment
pub answered : (answer : Evaluation → ℕ → State) (t : ℕ) (tasks : List Evaluation) → map (λ task. answer task t) tasks ≡ map (λ (asked : Evaluation × ℕ). answer asked.0 asked.1) (at_moment t tasks)
answered answer t [] = refl
answered answer t (task ∷ tasks) = ap (λ l. answer task t ∷ l) (answered answer t tasks)

module _ (answer : Evaluation → ℕ → State) (d : Netlist) (t : ℕ) where
  -- the answers at the places of the stirred gates
  pub answers_are : (gates : List ℕ) (answers : List State) → gates ≡ passing (λ g. is_stirred answer d g t) 0 d.gates →
      map (λ s. Some s) answers ≡ map (slice_get (map (state_before answer d (t + 1)) d.gates)) gates → answers ≡ map (state_before answer d (t + 1)) (stirred_at answer d t)
  answers_are gates answers there are =
      same_put answers (map (state_before answer d (t + 1)) (stirred_at answer d t))
      (are ∙ ap (map (slice_get (map (state_before answer d (t + 1)) d.gates))) there
      ∙ slices (λ g. is_stirred answer d g t) (state_before answer d (t + 1)) 0 d.gates (map (state_before answer d (t + 1)) d.gates) refl
      ∙ sym (map_twice (state_before answer d (t + 1)) (λ s. Some s) (stirred_at answer d t)))

  -- where no gate is stirred nothing is asked
  pub none_asked : (is_open : GateEntry → ℕ → Bool) → stirred_at answer d t ≡ [] → open_work_at is_open answer d t ≡ []
  none_asked is_open none =
      ap (λ (gs : List GateEntry). at_moment t (map (λ g. task_at answer d g t) gs))
      (sym (filter_filter (λ g. is_open g t) (λ g. is_stirred answer d g t) d.gates) ∙ ap (filter (λ g. is_open g t)) none)

all_kept : (answer : Evaluation → ℕ → State) (d : Netlist) (gs : List GateEntry) → filter (λ g. is_stirred answer d g 0) gs ≡ gs
all_kept answer d [] = refl
all_kept answer d (g ∷ gs) = ap (λ l. g ∷ l) (all_kept answer d gs)

-- at 0 all gates are stirred
pub first_answers : (answer : Evaluation → ℕ → State) (d : Netlist) → map (state_before answer d 1) (stirred_at answer d 0) ≡ map (state_before answer d 1) d.gates
first_answers answer d = ap (map (state_before answer d 1)) (all_kept answer d d.gates)
