-- What is promised of a run of all gates beside the old one.
use Rattle.std.proofs.Common.{◌≡◌, ◌≤◌, ◌∙◌, ap, sym, subst, refl, ℕ, zero, suc, List, ◌++◌, Result, IfOk, OnErr, OnOk}
use Rattle.std.proofs.lemmas.Result.{on_err_weaker, on_ok_weaker}
use Rattle.gatestep.specs.Step.{State, Evaluation}
use Rattle.gatestep.specs.declared.fault.StepFault.{StepFault}
use Rattle.design.specs.Keys.{Keyed, netlist}
use Rattle.design.specs.Netlist.{Netlist}
use Rattle.waveform.specs.kept.Runs.{RunRecord}
use Rattle.scratch.specs.Asked.{IsAskedInPart, IsAskedInSomeOrder}
use Rattle.scratch.specs.kept.Grown.{grown_all, grown_then, part_then, all_parts}
use Rattle.scratch.specs.kept.Lost.{CountsLoss}
use Rattle.scratch.specs.kept.Open.{all_below, all_from, open_work_at}
use Rattle.scratch.specs.kept.Run.{IsRun}
use Rattle.rundiff.specs.Dirty.{is_dirty, rework_at, rework_below}
use Rattle.resim.specs.kept.Reruns.{Reruns}

module _ (answer : Evaluation → ℕ → State) (old new : Netlist) where
  below_is : (n : ℕ) → all_below (rework_at answer old new) n ≡ rework_below answer old new n
  below_is zero = refl
  below_is (suc t) = ap (λ l. l ++ rework_at answer old new t) (below_is t)

  -- what is asked below a moment is what is asked below an earlier one, and from that one on
  pub parted : (a n : ℕ) → a ≤ n → rework_below answer old new n ≡ rework_below answer old new a ++ all_from (rework_at answer old new) a n
  parted a n low = sym (below_is n) ∙ all_parts (rework_at answer old new) a n low ∙ ap (λ l. l ++ all_from (rework_at answer old new) a n) (below_is a)

-- by lines of this design and what was asked where the answers of dirty gates are open
module _ (answer : Evaluation → ℕ → State) (old new of_lines : Keyed) (same : of_lines ≡ old) (before now : List (Evaluation × ℕ)) (losses lost : ℕ) (r : Result RunRecord StepFault)
    (run : IfOk r (IsRun answer new)) (counts : CountsLoss losses lost r) where
  abbrev work : Keyed → ℕ → List (Evaluation × ℕ)
  work former = open_work_at (is_dirty answer (netlist former) (netlist new)) answer (netlist new)

  pub swept : OnOk r (IsAskedInSomeOrder before now (all_below (work of_lines) (suc (netlist new).horizon))) → OnErr r (IsAskedInPart before now (all_below (work of_lines) (suc (netlist new).horizon))) →
      Reruns answer old new before now losses lost r
  swept asked part =
      let is : all_below (work of_lines) (suc (netlist new).horizon) ≡ rework_below answer (netlist old) (netlist new) (suc (netlist new).horizon) =
      ap (λ (k : Keyed). all_below (work k) (suc (netlist new).horizon)) same ∙ below_is answer (netlist old) (netlist new) (suc (netlist new).horizon) in
      record { run = run; asked = on_ok_weaker r (subst (IsAskedInSomeOrder before now) is) asked; part = on_err_weaker r (subst (IsAskedInPart before now) is) part; lost = counts }

  -- behind what was asked at the moments below one
  pub swept_behind : (a : ℕ) → a ≤ suc (netlist new).horizon → OnOk r (IsAskedInSomeOrder before now (all_from (work of_lines) a (suc (netlist new).horizon))) →
      OnErr r (IsAskedInPart before now (all_from (work of_lines) a (suc (netlist new).horizon))) → (was : List (Evaluation × ℕ)) → before ≡ was ++ rework_below answer (netlist old) (netlist new) a →
      Reruns answer old new was now losses lost r
  swept_behind a low asked part was begun =
      let end = suc (netlist new).horizon in let first = rework_below answer (netlist old) (netlist new) a in let rest = all_from (rework_at answer (netlist old) (netlist new)) a end in
      let is : all_from (work of_lines) a end ≡ rest = ap (λ (k : Keyed). all_from (work k) a end) same in
      let all = sym (parted answer (netlist old) (netlist new) a end low) in let grown = grown_all was before first begun in
      record {
        run = run;
        asked = on_ok_weaker r (λ more. subst (IsAskedInSomeOrder was now) all (grown_then was before now first rest grown (subst (IsAskedInSomeOrder before now) is more))) asked;
        part = on_err_weaker r (λ more. subst (IsAskedInPart was now) all (part_then was before now first rest grown (subst (IsAskedInPart before now) is more))) part;
        lost = counts;
      }
