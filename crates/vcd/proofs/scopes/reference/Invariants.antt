use Rattle.std.proofs.Common.{◌≡◌, length}
use Rattle.vcd.specs.Scopes.{reference_of}
use Rattle.vcd.proofs.scopes.reference.Given as goal

abbrev pub invariant-loop-within : goal.invariant-loop-within
invariant-loop-within g l = (l.writer ≡ l.initial.writer) × (reference_of l.name ≡ reference_of l.initial.name)

abbrev pub decreases-loop-within : goal.decreases-loop-within
decreases-loop-within g l = length l.name
