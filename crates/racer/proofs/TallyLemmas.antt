-- What is counted of a look.
use Rattle.std.proofs.Common.{◌≡◌, ◌∙◌, ◌↔◌, ℕ, Bool, false, IsTrue, Result, Ok, Err, IfErr, IfOk, ap}
use Rattle.gatestep.specs.Step.{Evaluation, State}
use Rattle.gatestep.specs.declared.fault.StepFault.{StepFault}
use Rattle.design.specs.Keys.{Keyed, netlist}
use Rattle.scratch.specs.kept.Run.{IsRun}
use Rattle.waveform.specs.kept.Runs.{RunRecord}
use Rattle.racer.specs.kept.Looks.{IsCounted, SameWaves}
use Rattle.racer.specs.Tallies.{TallyRecord}
use Rattle.racer.specs.kept.Tallies.{with_look}

pub counted_by : (d : Keyed) (found : Result RunRecord StepFault) (right : Bool) (before now : TallyRecord) → now ≡ with_look right before
    → IfErr found (λ _. right ≡ false)
    → IfOk found (λ run. (answer : Evaluation → ℕ → State) → IsRun answer d run → (IsTrue right ↔ SameWaves (netlist d) answer)) → IsCounted d found before now
counted_by d (Ok run) right before now is refused waves = λ answer run_is. (right, is, waves answer run_is)
counted_by d (Err fault) right before now is refused waves = is ∙ ap (λ (r : Bool). with_look r before) refused
