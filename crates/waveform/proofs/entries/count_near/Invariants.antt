use Rattle.std.proofs.Common.{◌-◌, ◌<◌, ◌≤◌, get_or, length}
use Rattle.waveform.proofs.entries.count_near.Given as goal

-- some entries are counted, and the last of them lies at the moment or before
abbrev pub invariant-loop-count : goal.invariant-loop-count
invariant-loop-count g l =
    record {
      some : 0 < l.count;
      within : l.count ≤ length l.entries;
      until : (d : _) → (g.V.Sample.stored (get_or l.entries (l.count - 1) d)).0 ≤ l.t;
    }

abbrev pub decreases-loop-count : goal.decreases-loop-count
decreases-loop-count g l = length l.entries - l.count
