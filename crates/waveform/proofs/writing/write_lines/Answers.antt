use Rattle.std.proofs.Common.{◌<◌, ◌≤◌, arith, length, map}
use Rattle.waveform.specs.kept.Notes.{noted}
use Rattle.waveform.proofs.Written.{all_written, line_follow, none_written, one_line_more}
use Rattle.waveform.proofs.writing.write_lines.Goals as goal

pub loop-place-init : goal.loop-place-init
loop-place-init g c = none_written c.args.lines.now.items (map (noted g.V.Sample.stored) c.args.notes.now)

pub write_line-requires-clause-follow : goal.write_line-requires-clause-follow
write_line-requires-clause-follow g c =
    let sample = g.V.Sample in
    let within : c.loop-place.place < length c.args.lines.now.items = omega (arith, c.args.lines.now.ok.0) in
    line_follow sample.same sample.drift sample.can_store sample.stored c.args.lines.now.items c.args.notes.now c.loop-place.place c.loop-place.lines.items
    c.index_mut.result.now within c.index_mut.ensures.value c.requires.noted c.loop-place.invariant

pub loop-place-preserved : goal.loop-place-preserved
loop-place-preserved g c =
    let within : c.loop-place.place < length c.args.lines.now.items = omega (arith, c.args.lines.now.ok.0) in
    one_line_more g.V.Sample.stored c.args.lines.now.items c.args.notes.now c.loop-place.place c.loop-place.lines.items
    c.index_mut.result.now c.write_line.new.line within c.index_mut.ensures.value c.in_ok-write_line.ensures c.loop-place.invariant

pub returns : goal.returns
returns g c =
    let past : length c.args.lines.now.items ≤ c.loop-place.place = omega (arith, c.args.lines.now.ok.0) in
    all_written c.args.lines.now.items (map (noted g.V.Sample.stored) c.args.notes.now) c.loop-place.place c.loop-place.lines.items past c.loop-place.invariant
