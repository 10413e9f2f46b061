use Rattle.std.proofs.Common.{◌≤◌, suc, ℕ, Option, slice_index_or}
use Rattle.std.specs.Option.{ForSome}
use Rattle.std.proofs.lemmas.Option.{slice_get-get_or}
use Rattle.rundiff.specs.kept.PlaceMaps.{kept_at}
use Rattle.fourstate.specs.declared.value.Value.{Value}
use Rattle.fourstate.specs.Values.{same_value}
use Rattle.design.specs.Connections.{to_net}
use Rattle.design.specs.Keys.{netlist}
use Rattle.waveform.specs.Entries.{standing}
use Rattle.waveform.specs.kept.Patches.{Keeps, PatchRecord}
use Rattle.waveform.specs.kept.Timelines.{end_of}
use Rattle.scratch.specs.Run.{value}
use Rattle.rundiff.specs.kept.Fronts.{IsOwn}
use Rattle.rundiff.specs.kept.Places.{net_at}
use Rattle.rundiff.specs.kept.Kept.{read_at}
use Rattle.rundiff.proofs.Steps.{is_one, not_yet, others_more, put_more}
use Rattle.rundiff.proofs.nets.put_values.Goals as goal

pub put_value-requires : goal.put_value-requires
put_value-requires g c =
    let xs = c.args.live.now in let i = c.loop-place.place-index in let x = slice_index_or xs i 0 in
    let at = slice_get-get_or xs i 0 c.loop-place-test.true in
    let there = c.requires.there x (is_one xs i x at) in
    let same = c.loop-place.invariant.others x (not_yet xs i x c.requires.rising at) in
    record {
      there = there;
      within = c.requires.within;
      run = c.requires.run;
      wave = rw same (c.requires.waves x there);
      end = rw same (c.requires.ends x);
      traces = c.requires.traces;
    }

pub loop-place-preserved : goal.loop-place-preserved
loop-place-preserved g c =
    let xs = c.args.live.now in let i = c.loop-place.place-index in
    let old = netlist c.args.former.now.old.now in let new = netlist c.args.former.now.new.now in
    let P : ℕ → Option (PatchRecord Value) → Type 0 = λ q o. Keeps same_value standing (read_at g.S.Stepper.answer old (to_net (net_at new q).name)) (value g.S.Stepper.answer new (net_at new q)) o (suc c.args.t) × IsOwn o × ForSome o (λ patch. end_of patch.line ≤ suc c.args.t) in
    let done = c.in_ok-put_value.ensures in
    record {
      put = put_more (kept_at c.args.waves.now) (kept_at c.loop-place.waves) (kept_at c.put_value.new.waves) xs i c.loop-place-test.true done.others P c.loop-place.invariant.put (done.put, done.own, done.end);
      others = others_more (kept_at c.args.waves.now) (kept_at c.loop-place.waves) (kept_at c.put_value.new.waves) xs i c.loop-place-test.true done.others c.loop-place.invariant.others;
    }
