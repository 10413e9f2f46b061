-- What is shown of a design's fields.
use Rattle.design.specs.kept.Kept.{IsKept}
use Rattle.design.specs.Keys.{Keyed}
use Rattle.design.specs.declared.design.Design.TheInside.{Inside}

abbrev pub design_of : Inside → Keyed
design_of a = record { top = a.top; unit = a.unit; horizon = a.horizon; nets = a.nets; gates = a.gates }

abbrev pub IsWhole : Inside → Type 0
IsWhole a = IsKept (design_of a) a.points a.wires.fanout a.wires.drivers
