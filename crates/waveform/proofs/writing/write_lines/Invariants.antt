use Rattle.std.proofs.Common.{map}
use Rattle.waveform.specs.kept.Notes.{noted}
use Rattle.waveform.proofs.Written.{AreWritten}
use Rattle.waveform.proofs.writing.write_lines.Given as goal

-- the timelines before `place` are written
abbrev pub invariant-loop-place : goal.invariant-loop-place
invariant-loop-place g l = AreWritten l.fn.lines.items (map (noted g.V.Sample.stored) l.notes) l.place l.lines.items
