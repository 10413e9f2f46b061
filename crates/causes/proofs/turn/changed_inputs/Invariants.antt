use Rattle.std.proofs.Common.{take}
use Rattle.devices.specs.Outgoing.{Adds}
use Rattle.causes.proofs.InputLemmas.{words_read}
use Rattle.causes.proofs.turn.changed_inputs.Given as goal

-- the words of the inputs before this one are written
abbrev pub invariant-loop-place : goal.invariant-loop-place
invariant-loop-place g l = Adds l.initial.writer l.writer (words_read l.design l.t (take l.place l.inputs))
