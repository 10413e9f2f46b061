use Rattle.resim.proofs.Asked.{unasked}
use Rattle.resim.proofs.other_horizon.rerun_longer.Goals as goal

pub returns-in_err-level : goal.returns-in_err-level
returns-in_err-level g c = record {
  reruns = unasked g.S.Stepper.answer c.args.old.now c.args.new.now (g.S.Stepper.asked c.args.stepper.now) (g.S.Stepper.losses c.args.stepper.now) c.from_residual.result c.from_residual.ensures.1;
}
