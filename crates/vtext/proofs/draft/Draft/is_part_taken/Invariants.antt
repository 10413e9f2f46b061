use Rattle.std.proofs.Common.{◌≡◌}
use Rattle.vtext.specs.GateNames.{is_part_taken}
use Rattle.vtext.specs.kept.Readings.{view}
use Rattle.vtext.proofs.draft.Draft.is_part_taken.Given as goal

abbrev pub invariant-loop-part : goal.invariant-loop-part
invariant-loop-part l = l.taken ≡ is_part_taken l.names (view l.self).taken l.base l.part
