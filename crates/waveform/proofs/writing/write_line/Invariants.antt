use Rattle.std.proofs.Common.{◌++◌, length, map}
use Rattle.waveform.specs.kept.Notes.{entries_at}
use Rattle.waveform.proofs.Remaining.{Remains, left_from}
use Rattle.waveform.proofs.writing.write_line.Given as goal

-- the chain from `number` on is left to be written
abbrev pub invariant-loop-number : goal.invariant-loop-number
invariant-loop-number g l =
    let sample = g.V.Sample in
    Remains sample.same sample.drift sample.can_store sample.stored l.notes l.links.next.items l.number l.line (l.fn.line ++ map sample.stored (entries_at l.place l.notes))

abbrev pub decreases-loop-number : goal.decreases-loop-number
decreases-loop-number g l = left_from (length l.notes) l.number
