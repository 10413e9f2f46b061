use Rattle.std.proofs.Common.{arith}
use Rattle.design.specs.Keys.{netlist}
use Rattle.rundiff.proofs.Reaching.{reach_first}
use Rattle.rundiff.proofs.front.Front.next_moment.Goals as goal

pub returns-clause-front : goal.returns-clause-front
returns-clause-front g c =
    let laws = g.met.S.Stepper in let front = c.args.self.now in
    (reach_first g.S.Stepper.answer (netlist c.args.former.now.old.now) (netlist c.args.former.now.new.now) laws.answer_current laws.answer_pending laws.answer_stays c.no_change.ensures c.no_change-2.ensures
    c.lawful.ensures.design c.lawful-2.ensures.design front front.done c.args.end c.first_before-net.result c.first_before-input.result c.first_before.result c.requires.front
    (let h = c.if-self-eq0.false in omega arith) c.requires.order c.requires.within c.first_before-net.ensures c.first_before-input.ensures c.first_before.ensures).0

pub returns-clause-idle : goal.returns-clause-idle
returns-clause-idle g c =
    let laws = g.met.S.Stepper in let front = c.args.self.now in
    (reach_first g.S.Stepper.answer (netlist c.args.former.now.old.now) (netlist c.args.former.now.new.now) laws.answer_current laws.answer_pending laws.answer_stays c.no_change.ensures c.no_change-2.ensures
    c.lawful.ensures.design c.lawful-2.ensures.design front front.done c.args.end c.first_before-net.result c.first_before-input.result c.first_before.result c.requires.front
    (let h = c.if-self-eq0.false in omega arith) c.requires.order c.requires.within c.first_before-net.ensures c.first_before-input.ensures c.first_before.ensures).1
