use Rattle.std.proofs.Common.{◌≡◌, ℕ, take}
use Rattle.gateline.specs.kept.Reads.{reads_by}
use Rattle.gateline.specs.kept.Waves.{inputs_by}
use Rattle.gateline.proofs.reads.are_of.Given as goal

-- the inputs so far have what was read
abbrev pub invariant-loop-place : goal.invariant-loop-place
invariant-loop-place l = (t : ℕ) → reads_by (take l.place l.reads) t ≡ inputs_by l.waves (take l.place l.inputs) t
