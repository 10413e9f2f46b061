use Rattle.std.proofs.Common.{◌≡◌, ◌≤◌, drop, length, map}
use Rattle.gateline.proofs.old_line.OldLine.inputs.Given as goal
use Rattle.gateline.specs.kept.Waves.{inputs_by}

-- the values of the inputs from the place on are found
abbrev pub invariant-loop-place : goal.invariant-loop-place
invariant-loop-place l =
    record {
      found : l.inputs ≡ inputs_by (map (λ wave. wave.now) l.self.waves.now) (drop l.place l.places) l.t;
      within : l.place ≤ length l.places;
    }

abbrev pub decreases-loop-place : goal.decreases-loop-place
decreases-loop-place l = l.place
