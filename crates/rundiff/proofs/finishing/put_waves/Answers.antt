use Rattle.std.proofs.Common.{◌∙◌, slice_index_or}
use Rattle.std.proofs.lemmas.Option.{slice_get-get_or}
use Rattle.rundiff.specs.kept.PlaceMaps.{kept_at}
use Rattle.catalog.specs.kept.Catalog.{keys_of}
use Rattle.rundiff.specs.kept.Finishing.{new_wave}
use Rattle.rundiff.proofs.Putting.{put_next}
use Rattle.rundiff.proofs.Steps.{is_one, not_yet, others_more}
use Rattle.rundiff.proofs.finishing.put_waves.Goals as goal

pub put_wave-requires : goal.put_wave-requires
put_wave-requires g c =
    let xs = c.args.live.now in let i = c.loop-place.place-index in let x = slice_index_or xs i 0 in
    let at = slice_get-get_or xs i 0 c.loop-place-test.true in
    let there = c.requires.there x (is_one xs i x at) in
    let same = c.loop-place.invariant.patches x (not_yet xs i x c.requires.rising at) in
    record {
      there = there;
      horizon = c.requires.horizon;
      run = c.requires.run;
      wave = rw same (c.requires.waves x there);
      end = rw same (c.requires.ends x);
    }

pub loop-place-preserved : goal.loop-place-preserved
loop-place-preserved g c =
    let xs = c.args.live.now in let i = c.loop-place.place-index in let x = slice_index_or xs i 0 in
    let at = slice_get-get_or xs i 0 c.loop-place-test.true in
    record {
      waves = put_next (new_wave g.S.Stepper.answer c.args.former.now.new.now) (keys_of c.args.former.now.new.now.nets) xs i x c.args.made.now.waves c.loop-place.made.waves c.put_wave.new.made.waves at c.loop-place.invariant.waves c.in_ok-put_wave.ensures.waves;
      patches = others_more (kept_at c.args.waves.now) (kept_at c.loop-place.waves) (kept_at c.put_wave.new.waves) xs i c.loop-place-test.true c.put_wave.ensures.others c.loop-place.invariant.patches;
      traces = c.put_wave.ensures.traces ∙ c.loop-place.invariant.traces;
      horizon = c.put_wave.ensures.horizon ∙ c.loop-place.invariant.horizon;
    }
