-- What is asked moment after moment, and from some moment on.
use Rattle.std.proofs.Common.{◌≡◌, ◌≤◌, ◌∙◌, ap, sym, subst, ℕ, List, ◌++◌, map}
use Rattle.std.specs.List.{flat_map}
use Rattle.gatestep.specs.Step.{State, Evaluation}
use Rattle.design.specs.Netlist.{Netlist}
use Rattle.scratch.specs.Asked.{IsAskedInPart, IsAskedInSomeOrder}
use Rattle.scratch.specs.Work.{task_at}
use Rattle.scratch.specs.kept.Grown.{grown_all, grown_then, part_then}
use Rattle.scratch.proofs.Moments.{map_twice}
use Rattle.ordering.specs.kept.Gates.{moments_from}
use Rattle.ordering.specs.kept.Reworks.{rework_from}
use Rattle.ordering.proofs.Columns.{each_from}
use Rattle.rundiff.specs.Dirty.{rework_at, rework_below, working_at}
use Rattle.resim.proofs.Sweeps.{parted}

module _ (answer : Evaluation → ℕ → State) (old new : Netlist) where
  split : (a n : ℕ) → a ≤ n → rework_below answer old new n ≡ rework_below answer old new a ++ rework_from answer old new a n
  split a n low =
      let rows : rework_at answer old new ≡ (λ t. map (λ g. (task_at answer new g t, t)) (working_at answer old new t)) =
      λ i t. map_twice (λ g. task_at answer new g t) (λ task. (task, t)) (working_at answer old new t) i in
      parted answer old new a n low
      ∙ ap (λ l. rework_below answer old new a ++ l) (each_from (rework_at answer old new) a n ∙ ap (λ work. flat_map work (moments_from a n)) rows)

  module _ (a n : ℕ) (low : a ≤ n) (was before now : List (Evaluation × ℕ)) (begun : before ≡ was ++ rework_below answer old new a) where
    -- what was asked from a moment on, behind what was asked before it
    pub all_behind : IsAskedInSomeOrder before now (rework_from answer old new a n) → IsAskedInSomeOrder was now (rework_below answer old new n)
    all_behind grown =
        subst (IsAskedInSomeOrder was now) (sym (split a n low))
        (grown_then was before now (rework_below answer old new a) (rework_from answer old new a n) (grown_all was before (rework_below answer old new a) begun) grown)

    pub part_behind : IsAskedInPart before now (rework_from answer old new a n) → IsAskedInPart was now (rework_below answer old new n)
    part_behind grown =
        subst (IsAskedInPart was now) (sym (split a n low))
        (part_then was before now (rework_below answer old new a) (rework_from answer old new a n) (grown_all was before (rework_below answer old new a) begun) grown)
