use Rattle.std.proofs.Common.{◌≡◌, ◌++◌}
use Rattle.devices.specs.Outgoing.{Adds}
use Rattle.listing.specs.Listings.{change_lines}
use Rattle.listing.proofs.stimulus.points.Given as goal

-- the points so far are written
abbrev pub invariant-loop-time : goal.invariant-loop-time
invariant-loop-time g l =
    record {
      points : l.net.points ≡ l.yielded ++ l.time-iterator;
      written : Adds l.fn.writer l.writer (change_lines l.yielded);
    }
