use Rattle.std.proofs.Common.{◌≡◌, false, take}
use Rattle.elaboration.specs.kept.Ranks.{fall}
use Rattle.elaboration.proofs.ranks.Ranks.fall.Given as goal

abbrev pub invariant-loop-place : goal.invariant-loop-place
invariant-loop-place l = fall l.self (take l.place l.modules.modules) ≡ false
