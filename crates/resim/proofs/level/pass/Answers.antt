use Rattle.std.proofs.Common.{◌≡◌, ◌∙◌, ap, suc, add-one}
use Rattle.design.specs.Keys.{netlist}
use Rattle.rundiff.specs.Dirty.{rework_below, working_at}
use Rattle.rundiff.specs.kept.Fronts.{tasks_in}
use Rattle.resim.proofs.Asked.{answers_are, front_at}
use Rattle.resim.proofs.level.pass.Goals as goal

pub settle-requires-clause-answers : goal.settle-requires-clause-answers
settle-requires-clause-answers g c =
    let answer = g.S.Stepper.answer in let old = netlist c.args.former.now.old.now in let new = netlist c.args.former.now.new.now in
    answers_are answer new c.args.t (working_at answer old new c.args.t) (tasks_in c.due.new.self) c.tasks.result.now
    c.step_some.new.answers.items c.as_slice.result.now
    c.in_ok-due.ensures.tasks c.tasks.ensures c.in_ok-step_some.ensures.answers c.as_slice.ensures.value

pub leap-requires-clause-front : goal.leap-requires-clause-front
leap-requires-clause-front g c =
    let answer = g.S.Stepper.answer in let old = netlist c.args.former.now.old.now in let new = netlist c.args.former.now.new.now in
    let done : c.settle.new.self.done ≡ suc c.args.t = c.in_ok-settle.ensures.done ∙ add-one c.args.t in
    front_at answer old new c.settle.new.self (suc c.args.t) c.settle.new.self.done done c.in_ok-settle.ensures.front

pub returns-clause-idle : goal.returns-clause-idle
returns-clause-idle g c =
    let answer = g.S.Stepper.answer in let old = netlist c.args.former.now.old.now in let new = netlist c.args.former.now.new.now in
    let done : c.settle.new.self.done ≡ suc c.args.t = c.in_ok-settle.ensures.done ∙ add-one c.args.t in
    c.in_ok-leap.ensures.idle ∙ ap (rework_below answer old new) done
