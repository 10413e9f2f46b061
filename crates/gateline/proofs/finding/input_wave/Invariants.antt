use Rattle.std.proofs.Common.{◌≡◌, ◌<◌, ◌≤◌, ℕ}
use Rattle.design.specs.Netlist.{stimulus}
use Rattle.gateline.proofs.Points.{AreApart}
use Rattle.gateline.proofs.finding.input_wave.Given as goal
use Rattle.waveform.specs.Changes.{wave_changes_below}

-- the wave has all changes before a moment, behind the points so far
abbrev pub invariant-loop-t : goal.invariant-loop-t
invariant-loop-t l =
    record {
      upto : ℕ;
      begun : 0 < upto;
      within : upto ≤ l.end;
      apart : AreApart l.net.points l.yielded l.t-iterator upto;
      wave : l.wave ≡ wave_changes_below (stimulus l.net.points) upto;
    }
