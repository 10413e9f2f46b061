use Rattle.std.proofs.Common.{◌∙◌, slice_index_or}
use Rattle.std.proofs.lemmas.Option.{slice_get-get_or}
use Rattle.rundiff.specs.kept.PlaceMaps.{kept_at}
use Rattle.catalog.specs.kept.Catalog.{keys_of}
use Rattle.rundiff.specs.kept.Finishing.{new_trace}
use Rattle.rundiff.proofs.Putting.{put_next}
use Rattle.rundiff.proofs.Steps.{is_one, not_yet, others_more}
use Rattle.rundiff.proofs.finishing.put_traces.Goals as goal

pub put_trace-requires : goal.put_trace-requires
put_trace-requires g c =
    let xs = c.args.held.now in let i = c.loop-place.place-index in let x = slice_index_or xs i 0 in
    let at = slice_get-get_or xs i 0 c.loop-place-test.true in
    let there = c.requires.there x (is_one xs i x at) in
    let same = c.loop-place.invariant.patches x (not_yet xs i x c.requires.rising at) in
    record {
      there = there;
      horizon = c.requires.horizon;
      run = c.requires.run;
      trace = rw same (c.requires.traces x there);
      end = rw same (c.requires.ends x);
    }

pub loop-place-preserved : goal.loop-place-preserved
loop-place-preserved g c =
    let xs = c.args.held.now in let i = c.loop-place.place-index in let x = slice_index_or xs i 0 in
    let at = slice_get-get_or xs i 0 c.loop-place-test.true in
    record {
      traces = put_next (new_trace g.S.Stepper.answer c.args.former.now.new.now) (keys_of c.args.former.now.new.now.gates) xs i x c.args.made.now.traces c.loop-place.made.traces c.put_trace.new.made.traces at c.loop-place.invariant.traces c.in_ok-put_trace.ensures.traces;
      patches = others_more (kept_at c.args.traces.now) (kept_at c.loop-place.traces) (kept_at c.put_trace.new.traces) xs i c.loop-place-test.true c.put_trace.ensures.others c.loop-place.invariant.patches;
      waves = c.put_trace.ensures.waves ∙ c.loop-place.invariant.waves;
      horizon = c.put_trace.ensures.horizon ∙ c.loop-place.invariant.horizon;
    }
