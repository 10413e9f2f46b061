use Rattle.resim.proofs.Asked.{unasked}
use Rattle.resim.proofs.Sweeps.{swept}
use Rattle.resim.proofs.sweep.sweep.Goals as goal

pub returns-in_err-lines : goal.returns-in_err-lines
returns-in_err-lines g c = record {
  reruns = unasked g.S.Stepper.answer c.args.former.now.old.now c.args.former.now.new.now (g.S.Stepper.asked c.args.stepper.now) (g.S.Stepper.losses c.args.stepper.now) c.from_residual.result c.from_residual.ensures.1;
}

pub returns : goal.returns
returns g c =
    let asked = g.S.Stepper.asked in let losses = g.S.Stepper.losses in let swept_run = c.simulate_beside in
    record {
      reruns =
          swept g.S.Stepper.answer c.args.former.now.old.now c.args.former.now.new.now c.in_ok-lines.lines.design c.in_ok-lines.ensures.design (asked c.args.stepper.now) (asked swept_run.new.stepper)
          (losses c.args.stepper.now) (losses swept_run.new.stepper) swept_run.result swept_run.ensures.run swept_run.ensures.lost swept_run.ensures.asked swept_run.ensures.part;
    }
