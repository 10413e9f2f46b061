use Rattle.std.proofs.Common.{◌∙◌}
use Rattle.fourstate.proofs.Planes.{same_fields}
use Rattle.fourstate.proofs.inputs.Inputs.is_same.Goals as goal

pub returns : goal.returns
returns c = rw (← c.self.view_is, ← c.other.view_is) (c.eq.ensures ∙ same_fields c.self.inside c.other.inside c.self.invariant c.other.invariant)
