use Rattle.std.proofs.Common.{◌≡◌, ◌<◌, ◌≤◌, ◌-◌, map}
use Rattle.gateline.proofs.Merging.{merged}
use Rattle.gateline.proofs.merge.merge_waves.Given as goal
use Rattle.gateline.specs.kept.Readers.{StandAt, next_among}
use Rattle.waveform.specs.Changes.{wave_at, wave_changes_below}

-- the wave has all changes before the moment, at which a driver changes next
abbrev pub invariant-loop-t : goal.invariant-loop-t
invariant-loop-t l =
    record {
      begun : 0 < l.t;
      within : l.t ≤ l.end;
      stand : StandAt (map wave_at l.waves) l.readers.items (l.t - 1);
      next : l.t ≤ next_among l.readers.items;
      wave : l.wave ≡ wave_changes_below (merged l.kind l.waves) l.t;
    }

abbrev pub decreases-loop-t : goal.decreases-loop-t
decreases-loop-t l = l.end - l.t
