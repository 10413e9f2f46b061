use Rattle.std.proofs.Common.{◌∙◌, ℕ, Bool, nat_cmp, slice_index_or}
use Rattle.std.specs.BTreeSet.{contains}
use Rattle.std.proofs.lemmas.Option.{slice_get-get_or}
use Rattle.event_queue.specs.kept.Noted.{noted}
use Rattle.design.specs.Keys.{netlist}
use Rattle.rundiff.specs.kept.Noting.{input_moves}
use Rattle.rundiff.proofs.NotedMore.{more_within}
use Rattle.rundiff.proofs.Steps.{at_index}
use Rattle.rundiff.proofs.gate_notes.note_all_inputs.Goals as goal

pub note_inputs-requires-clause-there : goal.note_inputs-requires-clause-there
note_inputs-requires-clause-there g c = at_index _ c.args.places.now c.loop-place.place-index c.loop-place-test.true c.requires.there

pub loop-place-preserved : goal.loop-place-preserved
loop-place-preserved g c =
    let xs = c.args.places.now in let i = c.loop-place.place-index in let x = slice_index_or xs i 0 in
    let done = c.in_ok-note_inputs.ensures in
    let moves : ℕ → ℕ → Bool = input_moves g.S.Stepper.answer (netlist c.args.former.now.old.now) (netlist c.args.former.now.new.now) (contains nat_cmp c.args.live.now) in
    record {
      next = more_within moves c.args.t xs i x (slice_get-get_or xs i 0 c.loop-place-test.true) (noted c.loop-place.queue) (noted c.note_inputs.new.queue) done.kept c.loop-place.invariant.next done.next;
      kept = λ k u h. done.kept k u (c.loop-place.invariant.kept k u h);
      early = λ u low. done.early u low ∙ c.loop-place.invariant.early u low;
    }
