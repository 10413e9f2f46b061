use Rattle.std.proofs.Common.{◌<◌, sym, subst, ℕ, suc}
use Rattle.design.specs.Keys.{netlist}
use Rattle.resim.proofs.Behind.{front_new, horizon_of, in_vain, swept}
use Rattle.resim.proofs.widening.widen.Goals as goal

pub returns-in_err-level : goal.returns-in_err-level
returns-in_err-level g c = record {
  reruns =
      in_vain g.S.Stepper.answer c.args.former.now.old.now c.args.former.now.new.now (g.S.Stepper.asked c.args.stepper.now) (g.S.Stepper.losses c.args.stepper.now)
      c.args.last c.from_residual.result c.from_residual.ensures.1 c.requires.within;
}

pub run_until-requires-clause-front : goal.run_until-requires-clause-front
run_until-requires-clause-front g c =
    front_new c.args.former.now.new.now c.in_ok-level.level c.args.last c.in_ok-level.ensures g.S.Stepper.answer c.args.front (suc c.args.last) (netlist c.args.former.now.old.now) c.requires.front

pub run_until-requires-clause-horizon : goal.run_until-requires-clause-horizon
run_until-requires-clause-horizon g c = horizon_of c.args.former.now.new.now c.in_ok-level.level c.args.last c.in_ok-level.ensures

pub returns-in_err-made : goal.returns-in_err-made
returns-in_err-made g c = record {
  reruns =
      in_vain g.S.Stepper.answer c.args.former.now.old.now c.args.former.now.new.now (g.S.Stepper.asked c.args.stepper.now) (g.S.Stepper.losses c.args.stepper.now)
      c.args.last c.from_residual-in_err-made.result c.from_residual-in_err-made.ensures.1 c.requires.within;
}

pub run_on-requires-clause-earlier : goal.run_on-requires-clause-earlier
run_on-requires-clause-earlier g c =
    subst (λ (h : ℕ). h < (netlist c.args.former.now.new.now).horizon)
    (sym (horizon_of c.args.former.now.new.now c.in_ok-level.level c.args.last c.in_ok-level.ensures)) c.requires.within

pub returns : goal.returns
returns g c = record {
  reruns =
      swept c.args.former.now.new.now c.in_ok-level.level c.args.last c.in_ok-level.ensures g.S.Stepper.answer c.args.former.now.old.now (g.S.Stepper.asked c.args.stepper.now) (g.S.Stepper.asked c.run_on.new.stepper)
      (g.S.Stepper.losses c.args.stepper.now) (g.S.Stepper.losses c.run_on.new.stepper) c.run_on.result c.run_on.ensures.reruns;
}
