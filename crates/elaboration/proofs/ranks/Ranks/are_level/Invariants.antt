use Rattle.std.proofs.Common.{◌≡◌, false, take}
use Rattle.std.specs.List.{list_any}
use Rattle.elaboration.specs.kept.Ranks.{is_level}
use Rattle.elaboration.proofs.ranks.Ranks.are_level.Given as goal

abbrev pub invariant-loop-instance : goal.invariant-loop-instance
invariant-loop-instance l = list_any (is_level l.self l.rank) (take l.instance-index l.instances) ≡ false
