use Rattle.std.proofs.Common.{◌∙◌, ◌<◌, ap, arith, length, slice_index_or}
use Rattle.std.proofs.lemmas.Option.{slice_get-get_or}
use Rattle.event_queue.specs.kept.Noted.{noted}
use Rattle.gatestep.specs.Step.{State}
use Rattle.rundiff.specs.kept.Noting.{pends}
use Rattle.rundiff.proofs.Driven.{read_get}
use Rattle.rundiff.proofs.NotedMore.{mapped_at, more_events}
use Rattle.rundiff.proofs.gate_notes.note_events.Goals as goal

pub loop-i-preserved : goal.loop-i-preserved
loop-i-preserved c =
    let xs = c.args.places.now in let i = c.loop-i.i in let x = slice_index_or xs i 0 in
    let at = slice_get-get_or xs i 0 c.loop-i-test.true in
    let low : i < length c.args.states.now = let h = c.loop-i-test.true in let many = c.requires.many in omega arith in
    let y = c.index-states-i.result in
    let read = read_get c.args.states.now i y low c.index-states-i.is in
    let done = c.in_ok-note_event.ensures in
    record {
      events = λ f those p u among h.
          more_events (λ q v. pends (f q) v) xs i x at (noted c.loop-i.queue) (noted c.note_event.new.queue) done.kept (c.loop-i.invariant.events f those)
          (λ v h. done.event v (ap (λ (s : State). pends s v) (mapped_at f xs c.args.states.now i x y those at read) ∙ h)) p u among h;
      kept = λ k u h. done.kept k u (c.loop-i.invariant.kept k u h);
      early = λ u low. done.early u low ∙ c.loop-i.invariant.early u low;
    }
