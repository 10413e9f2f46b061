use Rattle.std.proofs.Common.{◌≡◌, drop}
use Rattle.elaboration.specs.Ports.{second_pass, second_pass_from}
use Rattle.elaboration.proofs.ports.second_pass.Given as goal

abbrev pub invariant-loop-place : goal.invariant-loop-place
invariant-loop-place l = second_pass_from l.text l.modules.modules (drop l.place l.modules.modules) ≡ second_pass l.text l.modules.modules
