-- What a rerun is, whether or not it is known what edits touched.
use Rattle.std.specs.Prelude.{ℕ, suc, List, Option, Result, IfOk, OnErr, OnOk}
use Rattle.std.specs.Borrow.{Bor}
use Rattle.std.specs.Option.{ForSome}
use Rattle.gatestep.specs.Step.{State, Evaluation}
use Rattle.gatestep.specs.declared.fault.StepFault.{StepFault}
use Rattle.design.specs.Keys.{Keyed, netlist}
use Rattle.edits.specs.kept.Touched.{IsTouched}
use Rattle.edits.specs.declared.touched.Touched.{Touched}
use Rattle.waveform.specs.kept.Runs.{RunRecord}
use Rattle.scratch.specs.kept.Lost.{CountsLoss}
use Rattle.scratch.specs.Asked.{IsAskedInSomeOrder}
use Rattle.scratch.specs.kept.Run.{IsRun}
use Rattle.rundiff.specs.Dirty.{rework_below}
use Rattle.resim.specs.Reruns.{HasGrownInPart}

-- The run of the new design was made by a stepper of these answers beside the run of the old design, or a fault came.
-- `before` and `now` are all that the stepper was asked before the call and after it, each task with its moment; `losses`
-- and `losses_now` how many of its steps had lost a worker.
pub record Reruns (answer : Evaluation → ℕ → State) (old new : Keyed) (before now : List (Evaluation × ℕ))
    (losses losses_now : ℕ) (result : Result RunRecord StepFault) : Type 0 where
  -- the run is that of the new design
  pub run : IfOk result (IsRun answer new)
  -- where there is a run, the stepper was asked at each moment up to the horizon for the gates that are dirty and stirred,
  -- each once, in some order, and for nothing else
  pub asked : OnOk result (IsAskedInSomeOrder before now (rework_below answer (netlist old) (netlist new) (suc (netlist new).horizon)))
  -- where a fault came, it was asked for a part of that
  pub part : OnErr result (HasGrownInPart answer (netlist old) (netlist new) before now)
  -- the fault is that a worker was lost exactly where the stepper lost one
  pub lost : CountsLoss losses losses_now result

-- where it is known what edits touched, the new design is the old one outside of that
abbrev pub IsTouchedIfKnown : (old new : Keyed) → Option (Bor Touched) → Type 0
IsTouchedIfKnown old new touched = ForSome touched (λ t. IsTouched old new t.now.nets.items t.now.gates.items)
