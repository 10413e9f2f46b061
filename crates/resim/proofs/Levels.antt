-- Designs that differ in the horizon, and what a run of one beside another asks.
use Rattle.std.proofs.Common.{◌≡◌, ◌≤◌, ◌∙◌, ap, sym, subst, refl, ℕ, suc, List, ◌+◌, ◌++◌, Option, Bor, Result, Ok, IfOk, OnErr, OnOk, if◌then◌else◌, arith}
use Rattle.std.proofs.lemmas.Result.{on_ok_weaker, on_err_weaker}
use Rattle.gatestep.specs.Step.{State, Evaluation}
use Rattle.gatestep.specs.declared.fault.StepFault.{StepFault}
use Rattle.design.specs.Keys.{Keyed, netlist}
use Rattle.design.specs.Netlist.{Netlist, with_horizon}
use Rattle.edits.specs.kept.Touched.{IsTouched}
use Rattle.edits.specs.declared.touched.Touched.{Touched}
use Rattle.waveform.specs.kept.Runs.{RunRecord}
use Rattle.scratch.specs.kept.Lost.{loses_a_worker}
use Rattle.scratch.specs.kept.Run.{IsRun}
use Rattle.scratch.specs.Asked.{IsAskedInPart, IsAskedInSomeOrder}
use Rattle.scratch.specs.kept.Grown.{grown_then, part_of_more, part_then}
use Rattle.scratch.specs.kept.Work.{work_from}
use Rattle.rundiff.specs.Dirty.{rework_below}
use Rattle.resim.specs.Reruns.{HasGrownInPart}
use Rattle.resim.specs.kept.Reruns.{IsTouchedIfKnown, Reruns}
use Rattle.resim.proofs.Reworks.{new_alike, old_alike, past}

horizon_is : (d : Keyed) → (netlist d).horizon ≡ d.horizon
unfolding netlist
horizon_is d = refl

pub levelled : (d : Keyed) (h : ℕ) → netlist (record d { horizon = h }) ≡ with_horizon (netlist d) h
unfolding netlist
levelled d h = refl

pub is_early : (old new : Keyed) (h : ℕ) → h ≡ (netlist new).horizon → (netlist new).horizon ≤ (netlist old).horizon → h ≤ old.horizon
is_early old new h at early = subst (λ (u : ℕ). u ≤ old.horizon) (sym at) (subst (λ (u : ℕ). (netlist new).horizon ≤ u) (horizon_is old) early)

-- The old design, cut at the horizon of the new one.
module _ (old new former : Keyed) (h : ℕ) (is : former ≡ record old { horizon = h }) (at : h ≡ (netlist new).horizon) where
  former_is : netlist former ≡ with_horizon (netlist old) (netlist new).horizon
  former_is = ap netlist is ∙ levelled old h ∙ ap (with_horizon (netlist old)) at

  pub cut_horizon : (netlist new).horizon ≡ (netlist former).horizon
  cut_horizon = sym (ap (λ (d : Netlist). d.horizon) former_is)

  pub cut_run : (answer : Evaluation → ℕ → State) (k : ℕ) (short : RunRecord) → k ≡ (netlist new).horizon → IsRun answer (record old { horizon = k }) short → IsRun answer former short
  cut_run answer k short same run = subst (λ d. IsRun answer d short) (ap (λ (u : ℕ). record old { horizon = u }) (same ∙ sym at) ∙ sym is) run

  pub cut_touched : (touched : Option (Bor Touched)) → IsTouchedIfKnown old new touched → IsTouchedIfKnown former new touched
  cut_touched touched known t told =
      let same = known t told in
      subst (λ d. IsTouched d new t.now.nets.items t.now.gates.items) (sym is)
      (record { nets_stay = same.nets_stay; drivers_stay = same.drivers_stay; gates_stay = same.gates_stay; names_stay = same.names_stay })

  module _ (answer : Evaluation → ℕ → State) (early : (netlist new).horizon ≤ (netlist old).horizon) where
    cut_alike : (n : ℕ) → n ≤ suc (netlist new).horizon → rework_below answer (netlist former) (netlist new) n ≡ rework_below answer (netlist old) (netlist new) n
    cut_alike n low = ap (λ d. rework_below answer d (netlist new) n) former_is ∙ old_alike answer (netlist old) (netlist new) (netlist new).horizon early n low

    -- what is asked beside the cut run is what is asked beside the whole one
    pub cut_reruns : (before now : List (Evaluation × ℕ)) (losses lost : ℕ) (r : Result RunRecord StepFault) → Reruns answer former new before now losses lost r → Reruns answer old new before now losses lost r
    cut_reruns before now losses lost r made = record {
      run = made.run;
      asked = on_ok_weaker r (subst (IsAskedInSomeOrder before now) (cut_alike (suc (netlist new).horizon) (omega arith))) made.asked;
      part = on_err_weaker r (subst (IsAskedInPart before now) (cut_alike (suc (netlist new).horizon) (omega arith))) made.part;
      lost = made.lost;
    }

-- The new design, cut at the horizon of the old one.
module _ (old new level : Keyed) (is : level ≡ record new { horizon = (netlist old).horizon }) where
  level_is : netlist level ≡ with_horizon (netlist new) (netlist old).horizon
  level_is = ap netlist is ∙ levelled new (netlist old).horizon

  pub level_horizon : (netlist level).horizon ≡ (netlist old).horizon
  level_horizon = ap (λ (d : Netlist). d.horizon) level_is

  pub level_touched : (touched : Option (Bor Touched)) → IsTouchedIfKnown old new touched → IsTouchedIfKnown old level touched
  level_touched touched known t told =
      let same = known t told in
      subst (λ d. IsTouched old d t.now.nets.items t.now.gates.items) (sym is)
      (record { nets_stay = same.nets_stay; drivers_stay = same.drivers_stay; gates_stay = same.gates_stay; names_stay = same.names_stay })

  module _ (answer : Evaluation → ℕ → State) (later : (netlist old).horizon ≤ (netlist new).horizon) (before middle : List (Evaluation × ℕ)) where
    early : List (Evaluation × ℕ)
    early = rework_below answer (netlist old) (netlist new) (suc (netlist old).horizon)

    late : List (Evaluation × ℕ)
    late = work_from answer (netlist new) (suc (netlist old).horizon) (suc (netlist new).horizon)

    -- what is asked up to the old horizon
    early_is : rework_below answer (netlist old) (netlist level) (suc (netlist level).horizon) ≡ early
    unfolding early
    early_is =
        ap (λ d. rework_below answer (netlist old) d (suc (netlist level).horizon)) level_is
        ∙ new_alike answer (netlist old) (netlist new) (netlist old).horizon (suc (netlist level).horizon)
        ∙ ap (λ h. rework_below answer (netlist old) (netlist new) (suc h)) level_horizon

    -- and past it
    late_is : work_from answer (netlist new) (suc (netlist level).horizon) (suc (netlist new).horizon) ≡ late
    unfolding late
    late_is = ap (λ h. work_from answer (netlist new) (suc h) (suc (netlist new).horizon)) level_horizon

    whole : rework_below answer (netlist old) (netlist new) (suc (netlist new).horizon) ≡ early ++ late
    unfolding early late
    whole = past answer (netlist old) (netlist new) (suc (netlist new).horizon) (omega arith)

    -- a fault came up to the old horizon
    pub level_part : HasGrownInPart answer (netlist old) (netlist level) before middle → HasGrownInPart answer (netlist old) (netlist new) before middle
    level_part part =
        subst (IsAskedInPart before middle) (sym whole) (part_of_more before middle early late (subst (IsAskedInPart before middle) early_is part))

    module _ (asked : IsAskedInSomeOrder before middle (rework_below answer (netlist old) (netlist level) (suc (netlist level).horizon))) (now : List (Evaluation × ℕ)) where
      first : IsAskedInSomeOrder before middle early
      first = subst (IsAskedInSomeOrder before middle) early_is asked

      -- what is asked up to the old horizon and then past it is all
      past_asked : IsAskedInSomeOrder middle now (work_from answer (netlist new) (suc (netlist level).horizon) (suc (netlist new).horizon)) →
          IsAskedInSomeOrder before now (rework_below answer (netlist old) (netlist new) (suc (netlist new).horizon))
      past_asked more =
          subst (IsAskedInSomeOrder before now) (sym whole) (grown_then before middle now early late first (subst (IsAskedInSomeOrder middle now) late_is more))

      -- a fault came past the old horizon
      past_part : IsAskedInPart middle now (work_from answer (netlist new) (suc (netlist level).horizon) (suc (netlist new).horizon)) → HasGrownInPart answer (netlist old) (netlist new) before now
      past_part part =
          subst (IsAskedInPart before now) (sym whole) (part_then before middle now early late first (subst (IsAskedInPart middle now) late_is part))

    -- the run up to the old horizon goes on past it
    pub extended : (made : RunRecord) (losses between : ℕ) → Reruns answer old level before middle losses between (Ok made) → (now : List (Evaluation × ℕ)) (lost : ℕ) (r : Result RunRecord StepFault) →
        IfOk r (IsRun answer new) → OnOk r (IsAskedInSomeOrder middle now (work_from answer (netlist new) (suc (netlist level).horizon) (suc (netlist new).horizon))) →
        OnErr r (IsAskedInPart middle now (work_from answer (netlist new) (suc (netlist level).horizon) (suc (netlist new).horizon))) →
        lost ≡ between + (if loses_a_worker r then 1 else 0) → Reruns answer old new before now losses lost r
    extended made losses between up_to now lost r run asked part count = record {
      run = run;
      asked = on_ok_weaker r (past_asked up_to.asked now) asked;
      part = on_err_weaker r (past_part up_to.asked now) part;
      lost = let none = up_to.lost in omega arith;
    }
