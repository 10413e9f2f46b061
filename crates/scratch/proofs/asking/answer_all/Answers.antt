use Rattle.std.proofs.Common.{◌+◌, ◌++◌, ◌∙◌, ap, sym, refl, append-nil, map, length, slice_get, slice_index_or, arith}
use Rattle.std.proofs.lemmas.Grind.{common_steps}
use Rattle.std.proofs.lemmas.List.{take_all}
use Rattle.std.proofs.lemmas.Option.{slice_get-get_or, slice_get_read}
use Rattle.std.specs.List.{flat_map}
use Rattle.design.specs.Keys.{netlist}
use Rattle.scratch.specs.Run.{state_before}
use Rattle.scratch.specs.kept.Open.{asked_at}
use Rattle.scratch.proofs.Answered.{asked_more}
use Rattle.scratch.proofs.Passing.{read_more}
use Rattle.scratch.proofs.asking.answer_all.Goals as goal

pub loop-i-init : goal.loop-i-init
loop-i-init g c =
    record {
      answers = rw (c.reserve.ensures.items, c.clear.ensures.items) refl;
      asked = sym (append-nil (g.S.Stepper.asked c.args.stepper.now));
      losses = refl;
      fits = c.requires.fits;
      same = refl;
      room = grind (arith, common_steps);
    }

pub answer_of-answer-requires-clause-state : goal.answer_of-answer-requires-clause-state
answer_of-answer-requires-clause-state g c =
    let place = slice_index_or c.args.gates.now c.loop-i.i 0 in
    let states = c.args.states.now in
    ap (λ l. slice_get l place) (sym c.requires.states)
    ∙ slice_get_read states (length states) place c.index-states-place.result refl (c.requires.there c.loop-i.i 0 c.loop-i-test.true) c.index-states-place.is

pub loop-i-preserved : goal.loop-i-preserved
loop-i-preserved g c =
    let answer = g.S.Stepper.answer in let d = netlist c.args.present.now.design.now in let t = c.args.present.now.t in
    let is_open = g.B.Beside.is_open answer d c.args.beside.now in let gates = c.args.gates.now in let i = c.loop-i.i in let place = slice_index_or gates i 0 in
    let at = slice_get-get_or gates i 0 c.loop-i-test.true in
    record {
      answers =
          read_more (map (state_before answer d (t + 1)) d.gates) gates i place c.answer_of-answer.result c.loop-i.answers.items c.push_reserved.new.self.items at c.answer_of-answer.ensures.answer c.push_reserved.ensures.items
          c.loop-i.invariant.answers;
      asked =
          asked_more is_open answer d t gates i place (g.S.Stepper.asked c.args.stepper.now) (g.S.Stepper.asked c.loop-i.stepper) (g.S.Stepper.asked c.answer_of-answer.new.stepper) at
          c.loop-i.invariant.asked (c.answer_of-answer.ensures.asked ∙ ap (λ o. g.S.Stepper.asked c.loop-i.stepper ++ asked_at o answer d t place) c.loop-i.invariant.same);
      losses = c.answer_of-answer.ensures.lost ∙ c.loop-i.invariant.losses;
      fits = c.answer_of-answer.ensures.fits;
      same = c.answer_of-answer.ensures.same ∙ c.loop-i.invariant.same;
      room = let room = c.loop-i.invariant.room in let len = c.push_reserved.ensures.len in let capacity = c.push_reserved.ensures.capacity in omega (arith, room, len, capacity);
    }

pub returns-clause-answers : goal.returns-clause-answers
returns-clause-answers g c =
    let answer = g.S.Stepper.answer in let d = netlist c.args.present.now.design.now in let t = c.args.present.now.t in let gates = c.args.gates.now in
    c.loop-i.invariant.answers ∙ ap (map (slice_get (map (state_before answer d (t + 1)) d.gates))) (take_all c.loop-i.i gates (let past = c.loop-i-test.false in omega arith))

pub returns-clause-asked : goal.returns-clause-asked
returns-clause-asked g c =
    let answer = g.S.Stepper.answer in let d = netlist c.args.present.now.design.now in let t = c.args.present.now.t in let gates = c.args.gates.now in
    let is_open = g.B.Beside.is_open answer d c.args.beside.now in
    c.loop-i.invariant.asked
    ∙ ap (λ l. g.S.Stepper.asked c.args.stepper.now ++ flat_map (asked_at is_open answer d t) l) (take_all c.loop-i.i gates (let past = c.loop-i-test.false in omega arith))
