use Rattle.std.proofs.Common.{◌-◌, ◌≤◌}
use Rattle.devices.specs.Outgoing.{Adds}
use Rattle.listing.specs.Listings.{change_lines}
use Rattle.listing.specs.Windows.{changes_between}
use Rattle.listing.proofs.wave_part.changes_between.Given as goal

-- the changes up to the last moment are written
abbrev pub invariant-loop-time : goal.invariant-loop-time
invariant-loop-time g l = record {
  text : Adds l.initial.writer l.writer (change_lines (changes_between l.wave l.from l.last));
  behind : l.from ≤ l.last;
  within : l.last ≤ l.to;
}

abbrev pub decreases-loop-time : goal.decreases-loop-time
decreases-loop-time g l = l.to - l.last
