use Rattle.design.specs.Keys.{netlist}
use Rattle.resim.proofs.Behind.{in_vain}
use Rattle.resim.proofs.through.run_on.Goals as goal

pub returns-in_err-wiring : goal.returns-in_err-wiring
returns-in_err-wiring g c = record {
  reruns =
      in_vain g.S.Stepper.answer c.args.former.now.old.now c.args.former.now.new.now (g.S.Stepper.asked c.args.stepper.now) (g.S.Stepper.losses c.args.stepper.now)
      (netlist c.args.level.now).horizon c.from_residual.result c.from_residual.ensures.1 c.requires.earlier;
}

pub returns-in_err-order_for : goal.returns-in_err-order_for
returns-in_err-order_for g c = record {
  reruns =
      in_vain g.S.Stepper.answer c.args.former.now.old.now c.args.former.now.new.now (g.S.Stepper.asked c.args.stepper.now) (g.S.Stepper.losses c.args.stepper.now)
      (netlist c.args.level.now).horizon c.from_residual-in_err-order_for.result c.from_residual-in_err-order_for.ensures.1 c.requires.earlier;
}
