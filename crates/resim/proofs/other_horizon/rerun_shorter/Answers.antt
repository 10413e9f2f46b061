use Rattle.resim.proofs.Asked.{unasked}
use Rattle.resim.proofs.Levels.{cut_horizon, cut_reruns, cut_run, cut_touched, is_early}
use Rattle.resim.proofs.other_horizon.rerun_shorter.Goals as goal

pub shorten-requires : goal.shorten-requires
shorten-requires g c = is_early c.args.old.now c.args.new.now c.horizon.result c.horizon.ensures.horizon c.requires.horizon

pub rerun_level-requires-clause-run : goal.rerun_level-requires-clause-run
rerun_level-requires-clause-run g c =
    cut_run c.args.old.now c.args.new.now c.in_ok-former.former c.horizon-2.result c.in_ok-former.ensures c.horizon-2.ensures.horizon g.S.Stepper.answer
    c.horizon.result c.in_ok-short.short c.horizon.ensures.horizon (c.in_ok-short.ensures g.S.Stepper.answer c.requires.run)

pub rerun_level-requires-clause-touched : goal.rerun_level-requires-clause-touched
rerun_level-requires-clause-touched g c =
    cut_touched c.args.old.now c.args.new.now c.in_ok-former.former c.horizon-2.result c.in_ok-former.ensures c.horizon-2.ensures.horizon c.args.touched c.requires.touched

pub rerun_level-requires-clause-horizon : goal.rerun_level-requires-clause-horizon
rerun_level-requires-clause-horizon g c = cut_horizon c.args.old.now c.args.new.now c.in_ok-former.former c.horizon-2.result c.in_ok-former.ensures c.horizon-2.ensures.horizon

pub returns : goal.returns
returns g c =
    record {
      reruns =
          cut_reruns c.args.old.now c.args.new.now c.in_ok-former.former c.horizon-2.result c.in_ok-former.ensures c.horizon-2.ensures.horizon g.S.Stepper.answer c.requires.horizon
          (g.S.Stepper.asked c.args.stepper.now) (g.S.Stepper.asked c.rerun_level.new.stepper) (g.S.Stepper.losses c.args.stepper.now) (g.S.Stepper.losses c.rerun_level.new.stepper)
          c.rerun_level.result c.rerun_level.ensures.reruns;
    }

pub returns-in_err-short : goal.returns-in_err-short
returns-in_err-short g c = record {
  reruns = unasked g.S.Stepper.answer c.args.old.now c.args.new.now (g.S.Stepper.asked c.args.stepper.now) (g.S.Stepper.losses c.args.stepper.now) c.from_residual.result c.from_residual.ensures.1;
}

pub returns-in_err-former : goal.returns-in_err-former
returns-in_err-former g c = record {
  reruns = unasked g.S.Stepper.answer c.args.old.now c.args.new.now (g.S.Stepper.asked c.args.stepper.now) (g.S.Stepper.losses c.args.stepper.now) c.from_residual-in_err-former.result c.from_residual-in_err-former.ensures.1;
}
