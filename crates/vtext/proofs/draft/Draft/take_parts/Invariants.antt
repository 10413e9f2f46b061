use Rattle.std.proofs.Common.{◌≡◌}
use Rattle.vtext.specs.GateNames.{with_parts_taken}
use Rattle.vtext.specs.kept.Readings.{view}
use Rattle.vtext.proofs.draft.Draft.take_parts.Given as goal

abbrev pub invariant-loop-part : goal.invariant-loop-part
invariant-loop-part l = view l.self ≡ record (view l.initial.self) { taken = with_parts_taken l.names (view l.initial.self).taken l.base l.part }
