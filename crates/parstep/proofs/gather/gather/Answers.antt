use Rattle.std.proofs.Common.{◌+◌, ◌∙◌, length, map, ap, slice_range, arith}
use Rattle.std.proofs.lemmas.Grind.{common_steps}
use Rattle.std.proofs.lemmas.List.{length-map, length-set}
use Rattle.floor.specs.kept.Pieces.{first_task, answer_reply, after, finished, Answer}
use Rattle.gatestep.specs.Step.{State, Evaluation, advance}
use Rattle.gatestep.specs.Tasks.{PendingFrom}
use Rattle.parstep.proofs.Gathered.{map_part, taken_at, answer_at, all_more_at, all_at, finished_end}
use Rattle.parstep.proofs.gather.gather.Goals as goal

-- word of the piece is taken
pub unreachable-requires : goal.unreachable-requires
unreachable-requires g c =
    let f : Evaluation → State = λ task. advance task c.args.t in
    let tasks = c.args.tasks.now in
    let own = c.part_of-own.ensures ∙ ap (λ a. slice_range tasks a c.first_task-end.result) c.first_task-first.ensures.first ∙ ap (λ b. slice_range tasks (first_task (length tasks) c.args.pieces c.loop-number.number) b) c.first_task-end.ensures.first in
    let list = c.as_slice.ensures.value ∙ c.in_ok-answered.ensures.answers ∙ ap (map f) own ∙ map_part f tasks (first_task (length tasks) c.args.pieces c.loop-number.number) (first_task (length tasks) c.args.pieces (c.loop-number.number + 1)) in
    let ok = c.answer.ensures.reply ∙ ap (λ s. answer_reply s c.loop-number.number c.as_slice.result.now) c.loop-number.invariant.gathered ∙ taken_at (length tasks) c.args.pieces (map f tasks) c.as_slice.result.now c.loop-number.number (length-map tasks f) c.loop-number-test.true list in
    grind (arith, common_steps)

pub loop-number-preserved : goal.loop-number-preserved
loop-number-preserved g c =
    let f : Evaluation → State = λ task. advance task c.args.t in
    let tasks = c.args.tasks.now in
    let own = c.part_of-own.ensures ∙ ap (λ a. slice_range tasks a c.first_task-end.result) c.first_task-first.ensures.first ∙ ap (λ b. slice_range tasks (first_task (length tasks) c.args.pieces c.loop-number.number) b) c.first_task-end.ensures.first in
    let list = c.as_slice.ensures.value ∙ c.in_ok-answered.ensures.answers ∙ ap (map f) own ∙ map_part f tasks (first_task (length tasks) c.args.pieces c.loop-number.number) (first_task (length tasks) c.args.pieces (c.loop-number.number + 1)) in
    record {
      gathered = c.answer.ensures.state ∙ ap (λ s. after s (Answer c.loop-number.number c.as_slice.result.now)) c.loop-number.invariant.gathered ∙ answer_at (length tasks) c.args.pieces (map f tasks) c.as_slice.result.now c.loop-number.number (length-map tasks f) c.loop-number-test.true list;
      later = all_more_at (PendingFrom (c.args.t + 1)) (length tasks) c.args.pieces (map f tasks) c.as_slice.result.now c.loop-number.number list c.loop-number.invariant.later (rw c.as_slice.ensures.value c.in_ok-answered.ensures.later);
      seats = length-set c.loop-number.seats c.loop-number.number c.keep.new.self ∙ c.loop-number.invariant.seats;
    }

pub returns-clause-later : goal.returns-clause-later
returns-clause-later g c =
    let f : Evaluation → State = λ task. advance task c.args.t in
    let tasks = c.args.tasks.now in
    let past = c.loop-number-test.false in
    let within = c.loop-number.auto.number-end in
    all_at (PendingFrom (c.args.t + 1)) (length tasks) c.args.pieces (map f tasks) c.loop-number.number (length-map tasks f) c.requires.some (grind (arith, common_steps)) c.loop-number.invariant.later

pub returns-clause-gathered : goal.returns-clause-gathered
returns-clause-gathered g c =
    let f : Evaluation → State = λ task. advance task c.args.t in
    let tasks = c.args.tasks.now in
    let past = c.loop-number-test.false in
    let within = c.loop-number.auto.number-end in
    ap finished c.loop-number.invariant.gathered
    ∙ finished_end (length tasks) c.args.pieces (map f tasks) c.loop-number.number (length-map tasks f) c.requires.some (grind (arith, common_steps))
