use Rattle.std.proofs.Common.{◌≤◌, suc, arith}
use Rattle.design.specs.Keys.{netlist}
use Rattle.resim.proofs.Behind.{in_vain}
use Rattle.resim.proofs.Sweeps.{swept_behind}
use Rattle.resim.proofs.sweep.sweep_after.Goals as goal

pub returns-in_err-lines : goal.returns-in_err-lines
returns-in_err-lines g c = record {
  reruns =
      in_vain g.S.Stepper.answer c.args.former.now.old.now c.args.former.now.new.now (g.S.Stepper.asked c.args.stepper.now) (g.S.Stepper.losses c.args.stepper.now)
      (netlist c.args.level.now).horizon c.from_residual.result c.from_residual.ensures.1 c.requires.earlier;
}

pub returns : goal.returns
returns g c =
    let asked = g.S.Stepper.asked in let losses = g.S.Stepper.losses in let extended = c.extend_beside in
    let low : suc (netlist c.args.level.now).horizon ≤ suc (netlist c.args.former.now.new.now).horizon = let earlier = c.requires.earlier in omega (arith, earlier) in
    record {
      reruns =
          swept_behind g.S.Stepper.answer c.args.former.now.old.now c.args.former.now.new.now c.in_ok-lines.lines.design c.in_ok-lines.ensures.design (asked c.args.stepper.now) (asked extended.new.stepper)
          (losses c.args.stepper.now) (losses extended.new.stepper) extended.result extended.ensures.run extended.ensures.lost
          (suc (netlist c.args.level.now).horizon) low extended.ensures.asked extended.ensures.part;
    }
