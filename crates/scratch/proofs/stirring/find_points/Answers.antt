use Rattle.std.proofs.Common.{◌≡◌, ◌∙◌, ◌++◌, ap, arith}
use Rattle.std.proofs.lemmas.Result.{on_ok_weaker}
use Rattle.event_queue.specs.kept.Noted.{noted}
use Rattle.design.specs.Keys.{netlist}
use Rattle.scratch.specs.kept.Places.{has, point_at}
use Rattle.scratch.proofs.Notes.{announced, none_early}
use Rattle.scratch.proofs.Lists.{on_ok, both_ok}
use Rattle.scratch.proofs.stirring.find_points.Goals as goal

pub returns-clause-nets : goal.returns-clause-nets
returns-clause-nets c = on_ok c.note_next_points.result (c.in_ok-take.ensures.taken ∙ ap (λ l. l ++ noted c.args.points.now c.args.t) c.clear.ensures.items)

pub returns-clause-announces : goal.returns-clause-announces
returns-clause-announces c =
    let taken : c.take.new.out.items ≡ noted c.args.points.now c.args.t = c.in_ok-take.ensures.taken ∙ ap (λ l. l ++ noted c.args.points.now c.args.t) c.clear.ensures.items in
    both_ok c.note_next_points.result c.note_next_points.ensures.kept c.note_next_points.ensures.next
    (λ kept next.
    announced (point_at (netlist c.args.design.now).nets) c.args.t c.args.points.now c.take.new.self c.note_next_points.new.points c.in_ok-take.ensures.rest kept
    (λ m u among after h. next m u (ap (has m) (c.as_slice.ensures.value ∙ taken) ∙ among) after h) c.requires.announces)

pub returns-clause-early : goal.returns-clause-early
returns-clause-early c =
    on_ok_weaker c.note_next_points.result (λ early u low. early u (omega arith) ∙ none_early c.args.t c.args.points.now c.take.new.self c.in_ok-take.ensures.rest c.requires.early u low) c.note_next_points.ensures.early
