use Rattle.std.proofs.Common.{append-nil, sym}
use Rattle.resim.proofs.Asked.{unasked}
use Rattle.resim.proofs.through.run_through.Goals as goal

pub returns-in_err-wiring : goal.returns-in_err-wiring
returns-in_err-wiring g c = record {
  reruns = unasked g.S.Stepper.answer c.args.former.now.old.now c.args.former.now.new.now (g.S.Stepper.asked c.args.stepper.now) (g.S.Stepper.losses c.args.stepper.now) c.from_residual.result c.from_residual.ensures.1;
}

pub returns-in_err-order_for : goal.returns-in_err-order_for
returns-in_err-order_for g c = record {
  reruns = unasked g.S.Stepper.answer c.args.former.now.old.now c.args.former.now.new.now (g.S.Stepper.asked c.args.stepper.now) (g.S.Stepper.losses c.args.stepper.now) c.from_residual-in_err-order_for.result c.from_residual-in_err-order_for.ensures.1;
}

pub returns : goal.returns
returns g c = record {
  reruns = c.go_by_gates.ensures.reruns (g.S.Stepper.asked c.args.stepper.now) (sym (append-nil (g.S.Stepper.asked c.args.stepper.now)));
}
