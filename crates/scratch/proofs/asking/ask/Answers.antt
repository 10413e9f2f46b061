use Rattle.std.proofs.Common.{◌≡◌, ◌∙◌, ◌++◌, ap, sym, subst, length}
use Rattle.std.proofs.lemmas.List.{length-map}
use Rattle.std.specs.List.{flat_map}
use Rattle.std.proofs.lemmas.Result.{on_err_weaker, on_ok_weaker}
use Rattle.design.specs.Keys.{netlist}
use Rattle.scratch.specs.kept.Open.{asked_at}
use Rattle.scratch.specs.kept.Places.{has}
use Rattle.scratch.specs.kept.Work.{HasGrownOrNot}
use Rattle.scratch.specs.Run.{state_before}
use Rattle.scratch.specs.Work.{is_stirred}
use Rattle.scratch.proofs.Among.{in_range}
use Rattle.scratch.proofs.Answered.{all_asked}
use Rattle.scratch.proofs.Passing.{has_place, in_list}
use Rattle.scratch.proofs.Tasks.{answers_are}
use Rattle.scratch.proofs.asking.ask.Goals as goal

pub deal-requires-clause-there : goal.deal-requires-clause-there
deal-requires-clause-there g c =
    let d = netlist c.args.present.now.design.now in let answer = g.S.Stepper.answer in let t = c.args.present.now.t in
    let as_many : length c.args.states.now ≡ length d.gates = ap length c.requires.states ∙ length-map d.gates (state_before answer d t) in
    rw as_many (in_range c.args.gates.now (length d.gates) (λ k on.
    in_list (λ gate. is_stirred answer d gate t) d.gates k (sym (has_place (λ gate. is_stirred answer d gate t) d.gates k) ∙ sym (ap (has k) c.requires.gates) ∙ on)))

pub returns-then-deals-clause-answers : goal.returns-then-deals-clause-answers
returns-then-deals-clause-answers g c =
    let d = netlist c.args.present.now.design.now in let answer = g.S.Stepper.answer in
    on_ok_weaker c.deal.result (answers_are answer d c.args.present.now.t c.args.gates.now c.deal.new.asking.answers.items c.requires.gates) c.deal.ensures.answers

pub returns-then-deals-clause-asked : goal.returns-then-deals-clause-asked
returns-then-deals-clause-asked g c =
    let d = netlist c.args.present.now.design.now in let answer = g.S.Stepper.answer in let t = c.args.present.now.t in
    let is_open = g.B.Beside.is_open answer d c.args.beside.now in
    on_ok_weaker c.deal.result (λ grown. grown ∙ ap (λ l. g.S.Stepper.asked c.args.stepper.now ++ l) (ap (flat_map (asked_at is_open answer d t)) c.requires.gates ∙ all_asked is_open answer d t)) c.deal.ensures.asked

pub returns-then-deals-clause-part : goal.returns-then-deals-clause-part
returns-then-deals-clause-part g c =
    let d = netlist c.args.present.now.design.now in let answer = g.S.Stepper.answer in let t = c.args.present.now.t in
    let is_open = g.B.Beside.is_open answer d c.args.beside.now in
    on_err_weaker c.deal.result
    (subst (HasGrownOrNot (g.S.Stepper.asked c.args.stepper.now) (g.S.Stepper.asked c.deal.new.stepper)) (ap (flat_map (asked_at is_open answer d t)) c.requires.gates ∙ all_asked is_open answer d t)) c.deal.ensures.part

pub answer_all-requires-clause-there : goal.answer_all-requires-clause-there
answer_all-requires-clause-there g c =
    let d = netlist c.args.present.now.design.now in let answer = g.S.Stepper.answer in let t = c.args.present.now.t in
    let as_many : length c.args.states.now ≡ length d.gates = ap length c.requires.states ∙ length-map d.gates (state_before answer d t) in
    rw as_many (in_range c.args.gates.now (length d.gates) (λ k on.
    in_list (λ gate. is_stirred answer d gate t) d.gates k (sym (has_place (λ gate. is_stirred answer d gate t) d.gates k) ∙ sym (ap (has k) c.requires.gates) ∙ on)))

pub returns-clause-answers : goal.returns-clause-answers
returns-clause-answers g c =
    let d = netlist c.args.present.now.design.now in let answer = g.S.Stepper.answer in
    answers_are answer d c.args.present.now.t c.args.gates.now c.answer_all.new.answers.items c.requires.gates c.in_ok-answer_all.ensures.answers

pub returns-clause-asked : goal.returns-clause-asked
returns-clause-asked g c =
    let d = netlist c.args.present.now.design.now in let answer = g.S.Stepper.answer in let t = c.args.present.now.t in
    let is_open = g.B.Beside.is_open answer d c.args.beside.now in
    c.in_ok-answer_all.ensures.asked ∙ ap (λ l. g.S.Stepper.asked c.args.stepper.now ++ l) (ap (flat_map (asked_at is_open answer d t)) c.requires.gates ∙ all_asked is_open answer d t)
