use Rattle.resim.proofs.Asked.{unasked}
use Rattle.resim.proofs.level.rerun_level.Goals as goal

pub returns-in_err-is_wide-clause-reruns : goal.returns-in_err-is_wide-clause-reruns
returns-in_err-is_wide-clause-reruns g c =
    unasked g.S.Stepper.answer c.args.old.now c.args.new.now (g.S.Stepper.asked c.args.stepper.now) (g.S.Stepper.losses c.args.stepper.now) c.from_residual-in_err-is_wide.result c.from_residual-in_err-is_wide.ensures.1

pub returns-in_err-blanks-clause-reruns : goal.returns-in_err-blanks-clause-reruns
returns-in_err-blanks-clause-reruns g c =
    unasked g.S.Stepper.answer c.args.old.now c.args.new.now (g.S.Stepper.asked c.args.stepper.now) (g.S.Stepper.losses c.args.stepper.now) c.from_residual.result c.from_residual.ensures.1
