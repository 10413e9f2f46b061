use Rattle.std.proofs.Common.{◌≡◌, ℕ, take}
use Rattle.gateline.specs.kept.Reads.{reads_by}
use Rattle.gateline.specs.kept.Waves.{inputs_by}
use Rattle.gateline.proofs.reads.reads_of.Given as goal

-- what the inputs so far have
abbrev pub invariant-loop-input : goal.invariant-loop-input
invariant-loop-input l = (t : ℕ) → reads_by l.reads.items t ≡ inputs_by l.waves (take l.input-index l.inputs) t
