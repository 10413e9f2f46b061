use Rattle.std.proofs.Common.{◌≡◌, drop}
use Rattle.waveform.specs.kept.Partings.{parting}
use Rattle.waveform.proofs.apart.common_count.Given as goal

-- both lists have the changes before this place
abbrev pub invariant-loop-place : goal.invariant-loop-place
invariant-loop-place l = parting l.changes l.other ≡ parting (drop l.place l.changes) (drop l.place l.other)
