-- What a run beside an old one has asked of its stepper, and what it promises where it ends.
use Rattle.std.proofs.Common.{◌≡◌, ◌≤◌, ◌∙◌, ap, sym, subst, refl, ℕ, suc, List, [], ◌∷◌, ◌+◌, ◌++◌, append_assoc, append-nil, map, Result, Ok, Err, IfOk, if◌then◌else◌, inl, inr, arith}
use Rattle.std.specs.Result.{IsErrAnd}
use Rattle.gatestep.specs.Step.{State, Evaluation}
use Rattle.gatestep.specs.declared.fault.StepFault.{StepFault}
use Rattle.gatestep.specs.declared.fault.StepFault.TheVariants.{OutOfMemory, WorkerLost}
use Rattle.design.specs.Keys.{Keyed, netlist}
use Rattle.design.specs.Netlist.{GateEntry, Netlist}
use Rattle.waveform.specs.kept.Runs.{RunRecord}
use Rattle.scratch.specs.kept.Lost.{loses_a_worker}
use Rattle.scratch.specs.Run.{state_after}
use Rattle.scratch.specs.Asked.{IsAskedInPart}
use Rattle.scratch.specs.Work.{task_at}
use Rattle.scratch.specs.kept.Grown.{grown_first}
use Rattle.scratch.specs.kept.Work.{HasGrownOrNot}
use Rattle.scratch.specs.kept.Open.{all_from}
use Rattle.rundiff.specs.Dirty.{rework_at, rework_below}
use Rattle.rundiff.specs.kept.Fronts.{IsFront}
use Rattle.rundiff.specs.declared.front.Front.{Front}
use Rattle.resim.specs.Reruns.{HasGrownInPart}
use Rattle.resim.specs.kept.Reruns.{Reruns}
use Rattle.resim.proofs.Sweeps.{parted}

module _ (answer : Evaluation → ℕ → State) (d : Netlist) (t : ℕ) where
  states_are : (gates : List GateEntry) → map (λ task. answer task t) (map (λ g. task_at answer d g t) gates) ≡ map (λ g. state_after answer d g t) gates
  states_are [] = refl
  states_are (g ∷ gates) = ap (λ l. state_after answer d g t ∷ l) (states_are gates)

  -- the answers to the tasks of some gates are their states
  pub answers_are : (gates : List GateEntry) (tasks asked : List Evaluation) (answers taken : List State) → tasks ≡ map (λ g. task_at answer d g t) gates → asked ≡ tasks →
      answers ≡ map (λ task. answer task t) asked → taken ≡ answers → taken ≡ map (λ g. state_after answer d g t) gates
  answers_are gates tasks asked answers taken are all given same = same ∙ given ∙ ap (map (λ task. answer task t)) (all ∙ are) ∙ states_are gates

module _ (answer : Evaluation → ℕ → State) (old new : Netlist) where
  -- a fault came when the moments below n were done
  pub ended : (base now : List (Evaluation × ℕ)) (n : ℕ) → n ≤ suc new.horizon → now ≡ base ++ rework_below answer old new n → HasGrownInPart answer old new base now
  ended base now n low is =
      subst (IsAskedInPart base now) (sym (parted answer old new n (suc new.horizon) low))
      (grown_first base now (rework_below answer old new n) (all_from (rework_at answer old new) n (suc new.horizon)) is)

module _ (answer : Evaluation → ℕ → State) (old new : Netlist) (base before after : List (Evaluation × ℕ)) (t : ℕ) (was : before ≡ base ++ rework_below answer old new t) where
  -- the work of t more
  pub one_more : after ≡ before ++ rework_at answer old new t → after ≡ base ++ rework_below answer old new (suc t)
  one_more more = more ∙ ap (λ l. l ++ rework_at answer old new t) was ∙ append_assoc base (rework_below answer old new t) (rework_at answer old new t)

  -- a fault came at t
  pub part : t ≤ new.horizon → HasGrownOrNot before after (rework_at answer old new t) → HasGrownInPart answer old new base after
  part within (inl same) = ended answer old new base after t (omega arith) (same ∙ was)
  part within (inr more) = ended answer old new base after (suc t) (omega arith) (one_more more)

-- a fault is lost or not whatever else there might have been
lost_as : (A B : Type 0) (e f : StepFault) → f ≡ e → loses_a_worker {A = A} (Err e) ≡ loses_a_worker {A = B} (Err f)
lost_as A B e f is = same e ∙ ap (λ (x : StepFault). loses_a_worker {A = B} (Err x)) (sym is)
  where
    same : (x : StepFault) → loses_a_worker {A = A} (Err x) ≡ loses_a_worker {A = B} (Err x)
    same OutOfMemory = refl
    same WorkerLost = refl

-- a fault that is handed on is lost as it was
pub lost_on : (A B : Type 0) (e : StepFault) (r : Result B StepFault) (losses lost_before lost : ℕ) → IsErrAnd r (λ f. f ≡ e) → lost_before ≡ losses →
    lost ≡ lost_before + (if loses_a_worker {A = A} (Err e) then 1 else 0) → lost ≡ losses + (if loses_a_worker r then 1 else 0)
lost_on A B e (Ok x) losses lost_before lost is same count = absurd is
lost_on A B e (Err f) losses lost_before lost is same count =
    count ∙ ap (λ (n : ℕ). n + (if loses_a_worker {A = A} (Err e) then 1 else 0)) same ∙ ap (λ b. losses + (if b then 1 else 0)) (lost_as A B e f is)

-- and there is no answer
pub no_answer : {A : Type 0} (e : StepFault) (r : Result A StepFault) (P : A → Type 0) → IsErrAnd r (λ f. f ≡ e) → IfOk r P
no_answer e (Ok x) P is = absurd is
no_answer e (Err f) P is = tt

-- what is promised where a fault is handed on
pub stopped : (answer : Evaluation → ℕ → State) (old new : Keyed) (before now : List (Evaluation × ℕ)) (losses lost_before lost : ℕ) (A : Type 0) (e : StepFault) (r : Result RunRecord StepFault) →
    IsErrAnd r (λ f. f ≡ e) → HasGrownInPart answer (netlist old) (netlist new) before now → lost_before ≡ losses → lost ≡ lost_before + (if loses_a_worker {A = A} (Err e) then 1 else 0) →
    Reruns answer old new before now losses lost r
stopped answer old new before now losses lost_before lost A e (Ok x) is grown same count = absurd is
stopped answer old new before now losses lost_before lost A e (Err f) is grown same count = record {
  run = tt;
  asked = tt;
  part = grown;
  lost = count ∙ ap (λ (n : ℕ). n + (if loses_a_worker {A = A} (Err e) then 1 else 0)) same ∙ ap (λ b. losses + (if b then 1 else 0)) (lost_as A RunRecord e f is);
}

-- what is promised where memory ran out, and the moments below n were done
pub refused : (answer : Evaluation → ℕ → State) (old new : Keyed) (before now : List (Evaluation × ℕ)) (losses n : ℕ) (r : Result RunRecord StepFault) →
    IsErrAnd r (λ f. f ≡ OutOfMemory) → n ≤ suc (netlist new).horizon → now ≡ before ++ rework_below answer (netlist old) (netlist new) n → Reruns answer old new before now losses losses r
refused answer old new before now losses n r is within asked =
    stopped answer old new before now losses losses losses (Unit {0}) OutOfMemory r is (ended answer (netlist old) (netlist new) before now n within asked) refl (omega arith)

-- what is promised where memory ran out before anything was asked
pub unasked : (answer : Evaluation → ℕ → State) (old new : Keyed) (asked : List (Evaluation × ℕ)) (losses : ℕ) (r : Result RunRecord StepFault) →
    IsErrAnd r (λ f. f ≡ OutOfMemory) → Reruns answer old new asked asked losses losses r
unasked answer old new asked losses r is = refused answer old new asked asked losses 0 r is (omega arith) (sym (append-nil asked))

-- a front that is right at a moment, where that is known by another name
pub front_at : (answer : Evaluation → ℕ → State) (old new : Netlist) (front : Front) (n m : ℕ) → m ≡ n → IsFront answer old new front n → IsFront answer old new front m
front_at answer old new front n m same is = subst (λ k. IsFront answer old new front k) (sym same) is
