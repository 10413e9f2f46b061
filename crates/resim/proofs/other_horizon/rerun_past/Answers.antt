use Rattle.std.proofs.Common.{◌≤◌, refl, subst, sym}
use Rattle.design.specs.Keys.{netlist}
use Rattle.waveform.specs.kept.Runs.{RunRecord}
use Rattle.resim.proofs.Asked.{stopped}
use Rattle.resim.proofs.Levels.{extended, level_horizon, level_part, level_touched}
use Rattle.resim.proofs.other_horizon.rerun_past.Goals as goal

pub rerun_level-requires-clause-touched : goal.rerun_level-requires-clause-touched
rerun_level-requires-clause-touched g c = level_touched c.args.old.now c.args.new.now c.args.level.now c.requires.level c.args.touched c.requires.touched

pub rerun_level-requires-clause-horizon : goal.rerun_level-requires-clause-horizon
rerun_level-requires-clause-horizon g c = level_horizon c.args.old.now c.args.new.now c.args.level.now c.requires.level

pub returns-in_err-made : goal.returns-in_err-made
returns-in_err-made g c =
    let answer = g.S.Stepper.answer in let old = c.args.old.now in let new = c.args.new.now in let level = c.args.level.now in
    let asked = g.S.Stepper.asked in let losses = g.S.Stepper.losses in
    record {
      reruns =
          stopped answer old new (asked c.args.stepper.now) (asked c.rerun_level.new.stepper) (losses c.args.stepper.now) (losses c.args.stepper.now) (losses c.rerun_level.new.stepper)
          RunRecord c.in_err-made.field-0.0 c.from_residual.result c.from_residual.ensures.1
          (level_part old new level c.requires.level answer c.requires.horizon
          (asked c.args.stepper.now) (asked c.rerun_level.new.stepper) c.in_err-made.ensures.reruns.part)
          refl c.in_err-made.ensures.reruns.lost;
    }

pub extend-requires-clause-later : goal.extend-requires-clause-later
extend-requires-clause-later g c =
    subst (λ h. h ≤ (netlist c.args.new.now).horizon)
    (sym (level_horizon c.args.old.now c.args.new.now c.args.level.now c.requires.level)) c.requires.horizon

pub returns : goal.returns
returns g c =
    let asked = g.S.Stepper.asked in let losses = g.S.Stepper.losses in
    record {
      reruns =
          extended c.args.old.now c.args.new.now c.args.level.now c.requires.level g.S.Stepper.answer c.requires.horizon
          (asked c.args.stepper.now) (asked c.rerun_level.new.stepper) c.in_ok-made.made (losses c.args.stepper.now) (losses c.rerun_level.new.stepper) c.in_ok-made.ensures.reruns
          (asked c.extend.new.stepper) (losses c.extend.new.stepper) c.extend.result
          c.extend.ensures.run c.extend.ensures.asked c.extend.ensures.part c.extend.ensures.lost;
    }
