use Rattle.std.proofs.Common.{◌≤◌, ◌∙◌, sym, refl, ℕ, suc, Option, Some, None, IfSome, add-zero, arith}
use Rattle.gatestep.specs.declared.fault.StepFault.TheVariants.{OutOfMemory}
use Rattle.gatestep.specs.Step.{State, Evaluation}
use Rattle.design.specs.Keys.{Keyed, netlist}
use Rattle.waveform.specs.kept.Runs.{RunRecord}
use Rattle.ordering.specs.declared.earlier.EarlierRun.{EarlierRun}
use Rattle.ordering.specs.kept.Earlier.{IsEarlier, begin_after}
use Rattle.resim.proofs.Asked.{stopped}
use Rattle.resim.proofs.ByGates.{all_behind, part_behind}
use Rattle.resim.proofs.through.go_by_gates.Goals as goal

-- an earlier run ends before the design's
ends_before : (answer : Evaluation → ℕ → State) (d : Keyed) (earlier : Option EarlierRun) → IfSome earlier (IsEarlier answer d) → begin_after earlier ≤ suc (netlist d).horizon
ends_before answer d None is = omega arith
ends_before answer d (Some run) is = let later = is.later in omega (arith, later)

pub returns-in_err-run_beside : goal.returns-in_err-run_beside
returns-in_err-run_beside g c =
    let answer = g.S.Stepper.answer in let old = c.args.former.now.old.now in let new = c.args.former.now.new.now in
    let asked = g.S.Stepper.asked in let losses = g.S.Stepper.losses in let begin = begin_after c.args.earlier in
    record {
      reruns = λ was begun.
          stopped answer old new was (asked c.run_beside.new.stepper) (losses c.args.stepper.now) (losses c.args.stepper.now) (losses c.run_beside.new.stepper) RunRecord OutOfMemory c.from_residual.result
          c.from_residual.ensures.1
          (part_behind answer (netlist old) (netlist new) begin (suc (netlist new).horizon) (ends_before answer new c.args.earlier c.requires.earlier) was (asked c.args.stepper.now) (asked c.run_beside.new.stepper) begun
          c.in_err-run_beside.ensures.part)
          refl (c.run_beside.ensures.lost ∙ sym (add-zero (losses c.args.stepper.now)));
    }

pub returns : goal.returns
returns g c =
    let answer = g.S.Stepper.answer in let old = c.args.former.now.old.now in let new = c.args.former.now.new.now in
    let asked = g.S.Stepper.asked in let losses = g.S.Stepper.losses in let begin = begin_after c.args.earlier in
    record {
      reruns = λ was begun. record {
        run = c.in_ok-run_beside.ensures.run;
        asked =
            all_behind answer (netlist old) (netlist new) begin (suc (netlist new).horizon) (ends_before answer new c.args.earlier c.requires.earlier) was (asked c.args.stepper.now) (asked c.run_beside.new.stepper) begun
            c.in_ok-run_beside.ensures.asked;
        part = tt;
        lost = c.run_beside.ensures.lost ∙ sym (add-zero (losses c.args.stepper.now));
      };
    }
