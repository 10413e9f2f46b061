-- A design with another horizon beside the one that it was made of.
use Rattle.std.proofs.Common.{◌≡◌, ◌<◌, ◌≤◌, ◌∙◌, ap, sym, subst, ℕ, suc, List, ◌++◌, Result, arith}
use Rattle.std.specs.Result.{IsErrAnd}
use Rattle.gatestep.specs.Step.{Evaluation, State}
use Rattle.gatestep.specs.declared.fault.StepFault.{StepFault}
use Rattle.gatestep.specs.declared.fault.StepFault.TheVariants.{OutOfMemory}
use Rattle.design.specs.Keys.{Keyed, netlist}
use Rattle.design.specs.Netlist.{Netlist, with_horizon}
use Rattle.rundiff.specs.kept.Fronts.{IsFront}
use Rattle.rundiff.specs.declared.front.Front.{Front}
use Rattle.waveform.specs.kept.Runs.{RunRecord}
use Rattle.rundiff.specs.Dirty.{rework_below}
use Rattle.resim.specs.kept.Reruns.{Reruns}
use Rattle.resim.proofs.Asked.{refused}
use Rattle.resim.proofs.Fronts.{new_front, old_front}
use Rattle.resim.proofs.Levels.{levelled}

-- a moment before the last one is within the design
pub is_within : (d : Keyed) (t : ℕ) → t < (netlist d).horizon → t ≤ d.horizon
unfolding netlist
is_within d t low = omega (arith, low)

module _ (d made : Keyed) (h : ℕ) (is : made ≡ record d { horizon = h }) where
  made_is : netlist made ≡ with_horizon (netlist d) h
  made_is = ap netlist is ∙ levelled d h

  pub horizon_of : (netlist made).horizon ≡ h
  horizon_of = ap (λ (n : Netlist). n.horizon) made_is

  -- what is promised behind the horizon of the one is promised behind that moment
  pub swept : (answer : Evaluation → ℕ → State) (old : Keyed) (asked now : List (Evaluation × ℕ)) (losses lost : ℕ) (r : Result RunRecord StepFault) →
      ((was : List (Evaluation × ℕ)) → asked ≡ was ++ rework_below answer (netlist old) (netlist d) (suc (netlist made).horizon) → Reruns answer old d was now losses lost r) →
      (was : List (Evaluation × ℕ)) → asked ≡ was ++ rework_below answer (netlist old) (netlist d) (suc h) → Reruns answer old d was now losses lost r
  swept answer old asked now losses lost r all was began =
      all was (began ∙ ap (λ (u : ℕ). was ++ rework_below answer (netlist old) (netlist d) (suc u)) (sym horizon_of))

  module _ (answer : Evaluation → ℕ → State) (front : Front) (n : ℕ) where
    -- a front beside the old design, where the new one has another horizon
    pub front_new : (old : Netlist) → IsFront answer old (netlist d) front n → IsFront answer old (netlist made) front n
    front_new old right = subst (λ k. IsFront answer old k front n) (sym made_is) (new_front answer old (netlist d) front n h right)

    -- and where the old one has an earlier one
    pub front_old : (new : Netlist) → h ≤ (netlist d).horizon → IsFront answer (netlist d) new front n → IsFront answer (netlist made) new front n
    front_old new early right = subst (λ k. IsFront answer k new front n) (sym made_is) (old_front answer (netlist d) new front n h early right)

-- memory ran out after the moments up to h, before more was asked
pub in_vain : (answer : Evaluation → ℕ → State) (old new : Keyed) (asked : List (Evaluation × ℕ)) (losses h : ℕ) (r : Result RunRecord StepFault) →
    IsErrAnd r (λ f. f ≡ OutOfMemory) → h < (netlist new).horizon →
    (was : List (Evaluation × ℕ)) → asked ≡ was ++ rework_below answer (netlist old) (netlist new) (suc h) → Reruns answer old new was asked losses losses r
in_vain answer old new asked losses h r is low was began = refused answer old new was asked losses (suc h) r is (omega (arith, low)) began
