use Rattle.std.proofs.Common.{take}
use Rattle.gateline.proofs.readers.open_readers.Given as goal
use Rattle.gateline.specs.kept.Readers.{StandAt}
use Rattle.gateline.specs.kept.Waves.{input_functions}

-- the readers of the inputs so far
abbrev pub invariant-loop-input : goal.invariant-loop-input
invariant-loop-input l = StandAt (input_functions l.waves (take l.input-index l.inputs)) l.readers.items l.t
