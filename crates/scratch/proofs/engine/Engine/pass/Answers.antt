use Rattle.design.specs.Keys.{netlist}
use Rattle.event_queue.proofs.Changes.{held_err}
use Rattle.scratch.specs.kept.Grown.{all_is_part, grown_all, grown_none}
use Rattle.scratch.specs.kept.Open.{open_work_at}
use Rattle.scratch.proofs.Asked.{part_or_none}
use Rattle.scratch.proofs.engine.Engine.pass.Goals as goal

pub returns-in_err-stir-clause-part : goal.returns-in_err-stir-clause-part
returns-in_err-stir-clause-part g c =
    let answer = g.S.Stepper.answer in let d = netlist c.args.design.now in
    held_err c.from_residual.result (grown_none (g.S.Stepper.asked c.args.stepper.now) (open_work_at (g.B.Beside.is_open answer d c.args.beside.now) answer d c.args.t))

pub returns-in_err-ask-clause-part : goal.returns-in_err-ask-clause-part
returns-in_err-ask-clause-part g c =
    let answer = g.S.Stepper.answer in let d = netlist c.args.design.now in
    held_err c.from_residual-in_err-ask.result
    (part_or_none (g.S.Stepper.asked c.args.stepper.now) (g.S.Stepper.asked c.ask.new.stepper) (open_work_at (g.B.Beside.is_open answer d c.args.beside.now) answer d c.args.t) c.in_err-ask.ensures.part)

pub returns-in_err-settle-clause-part : goal.returns-in_err-settle-clause-part
returns-in_err-settle-clause-part g c =
    let answer = g.S.Stepper.answer in let d = netlist c.args.design.now in let asked = g.S.Stepper.asked in
    let work = open_work_at (g.B.Beside.is_open answer d c.args.beside.now) answer d c.args.t in
    held_err c.from_residual-in_err-settle.result
    (all_is_part (asked c.args.stepper.now) (asked c.ask.new.stepper) work (grown_all (asked c.args.stepper.now) (asked c.ask.new.stepper) work c.in_ok-ask.ensures.asked))
