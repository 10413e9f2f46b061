use Rattle.std.proofs.Common.{◌≡◌, ◌++◌, take}
use Rattle.vtext.specs.Instances.{part_gates}
use Rattle.vtext.specs.kept.Readings.{view}
use Rattle.vtext.proofs.draft.Draft.add_parts.Given as goal

abbrev pub invariant-loop-i : goal.invariant-loop-i
invariant-loop-i l =
    view l.self ≡ record (view l.initial.self) { gates = (view l.initial.self).gates ++ part_gates (view l.initial.self) l.instance l.inputs 1 (take l.i l.outputs) }
