use Rattle.std.proofs.Common.{suc}
use Rattle.design.specs.Keys.{netlist}
use Rattle.event_queue.proofs.Changes.{held_err}
use Rattle.scratch.specs.Work.{work_below}
use Rattle.scratch.specs.kept.Grown.{grown_none}
use Rattle.scratch.proofs.run.simulate.Goals as goal

pub returns-in_err-wiring-clause-part : goal.returns-in_err-wiring-clause-part
returns-in_err-wiring-clause-part g c =
    let d = netlist c.args.design.now in
    held_err c.from_residual.result (grown_none (g.S.Stepper.asked c.args.stepper.now) (work_below g.S.Stepper.answer d (suc d.horizon)))
