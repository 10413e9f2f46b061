use Rattle.std.proofs.Common.{All}
use Rattle.design.specs.kept.Keys.{IsThere}
use Rattle.base_tests.proofs.designs.nets_read.Given as goal

-- the nets so far are there
abbrev pub invariant-loop-text : goal.invariant-loop-text
invariant-loop-text g l = All (IsThere l.design.nets) l.inputs.items
