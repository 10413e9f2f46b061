use Rattle.std.proofs.Common.{◌≡◌, map, take}
use Rattle.gateline.proofs.finding.driver_waves.Given as goal
use Rattle.gateline.specs.kept.Known.{current_by}
use Rattle.waveform.specs.Changes.{wave_changes_below}

-- the waves of the drivers so far
abbrev pub invariant-loop-place : goal.invariant-loop-place
invariant-loop-place l = l.waves.items ≡ map (λ place. wave_changes_below (current_by l.traces place) l.end) (take l.place-index l.places)
