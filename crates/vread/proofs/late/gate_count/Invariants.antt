use Rattle.std.proofs.Common.{◌≡◌, take}
use Rattle.vread.specs.kept.Parts.{gate_count}
use Rattle.vread.proofs.late.gate_count.Given as goal

abbrev pub invariant-loop-scope : goal.invariant-loop-scope
invariant-loop-scope l = l.count ≡ gate_count (take l.scope-index l.scopes)
