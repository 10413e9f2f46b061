use Rattle.std.proofs.Common.{◌≤◌, ◌<◌, ◌+◌, arith, ◌⊎◌, inl, inr}
use Rattle.std.proofs.lemmas.Bool.{cases_lt}
use Rattle.design.specs.Keys.{netlist}
use Rattle.scratch.proofs.Skips.{not_before, reach}
use Rattle.scratch.proofs.engine.Engine.advance.Goals as goal

pub returns-clause-from : goal.returns-clause-from
returns-clause-from g c = by (cases_lt c.next_below.result (c.horizon-end.result + 1))
  where
    by : (c.next_below.result < (c.horizon-end.result + 1)) ⊎ ((c.horizon-end.result + 1) ≤ c.next_below.result) → c.args.done ≤ c.next_below.result
    by (inl low) =
        let law = g.met.S.Stepper in let answer = g.S.Stepper.answer in let d = netlist c.args.design.now in
        not_before answer d law.answer_current law.answer_pending law.answer_stays c.no_change.ensures c.no_change-2.ensures c.lawful.ensures.design.gates
        c.args.self.now c.args.done c.next_below.result c.requires.stands (c.next_below.ensures.some low)
    by (inr high) = let within = c.requires.within in let is = c.horizon-end.ensures.horizon in omega arith

pub returns-clause-stands : goal.returns-clause-stands
returns-clause-stands g c =
    let law = g.met.S.Stepper in let answer = g.S.Stepper.answer in let d = netlist c.args.design.now in
    (reach answer d law.answer_current law.answer_pending law.answer_stays c.no_change.ensures c.no_change-2.ensures c.lawful.ensures.design.gates
    c.args.self.now c.args.done c.next_below.result (returns-clause-from g c) c.requires.stands c.next_below.ensures.events c.next_below.ensures.points).stands

pub returns-clause-quiet : goal.returns-clause-quiet
returns-clause-quiet g c =
    let law = g.met.S.Stepper in let answer = g.S.Stepper.answer in let d = netlist c.args.design.now in
    (reach answer d law.answer_current law.answer_pending law.answer_stays c.no_change.ensures c.no_change-2.ensures c.lawful.ensures.design.gates
    c.args.self.now c.args.done c.next_below.result (returns-clause-from g c) c.requires.stands c.next_below.ensures.events c.next_below.ensures.points).quiet
