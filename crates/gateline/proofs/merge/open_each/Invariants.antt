use Rattle.std.proofs.Common.{map, take}
use Rattle.gateline.proofs.merge.open_each.Given as goal
use Rattle.gateline.specs.kept.Readers.{StandAt}
use Rattle.waveform.specs.Changes.{wave_at}

-- the readers of the waves so far
abbrev pub invariant-loop-wave : goal.invariant-loop-wave
invariant-loop-wave l = StandAt (map wave_at (take l.wave-index l.waves)) l.readers.items 0
