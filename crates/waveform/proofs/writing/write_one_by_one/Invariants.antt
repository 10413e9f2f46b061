use Rattle.std.proofs.Common.{◌≡◌, map, drop}
use Rattle.waveform.specs.kept.Notes.{AreNoted, noted, with_notes}
use Rattle.waveform.proofs.writing.write_one_by_one.Given as goal

-- what is left of the notes may be written, and then all are
abbrev pub invariant-loop-i : goal.invariant-loop-i
invariant-loop-i g l =
    let sample = g.V.Sample in
    let left = map (noted sample.stored) (drop l.i l.notes) in
    record {
      are : AreNoted sample.same sample.drift sample.can_store l.lines.items left;
      whole : with_notes l.lines.items left ≡ with_notes l.fn.lines.items (map (noted sample.stored) l.notes);
    }
