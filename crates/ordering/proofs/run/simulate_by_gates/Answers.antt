use Rattle.std.proofs.Common.{suc}
use Rattle.design.specs.Keys.{netlist}
use Rattle.ordering.proofs.Asked.{gate_by_gate_all, gates_in_part_all}
use Rattle.gatestep.proofs.Jobs.{on_err}
use Rattle.ordering.proofs.run.simulate_by_gates.Goals as goal

pub returns-in_err-run_in_order-clause-part : goal.returns-in_err-run_in_order-clause-part
returns-in_err-run_in_order-clause-part g c =
    let d = netlist c.args.design.now in let asked = g.S.Stepper.asked in
    on_err c.from_residual.result
    (gates_in_part_all g.S.Stepper.answer d (suc d.horizon) c.args.order.now c.requires.order (asked c.args.stepper.now) (asked c.run_in_order.new.stepper) c.in_err-run_in_order.ensures.part)

pub returns-clause-asked : goal.returns-clause-asked
returns-clause-asked g c =
    let d = netlist c.args.design.now in let asked = g.S.Stepper.asked in
    gate_by_gate_all g.S.Stepper.answer d (suc d.horizon) c.args.order.now c.requires.order (asked c.args.stepper.now) (asked c.run_in_order.new.stepper) c.in_ok-run_in_order.ensures.asked
