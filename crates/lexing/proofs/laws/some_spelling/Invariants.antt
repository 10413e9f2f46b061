use Rattle.std.proofs.Common.{◌≤◌, ◌-◌, length}
use Rattle.lexing.proofs.TextLemmas.{HasFront}
use Rattle.lexing.proofs.laws.some_spelling.Given as goal

abbrev pub invariant-loop-position : goal.invariant-loop-position
invariant-loop-position l = record {
  within : l.position ≤ length l.text;
  front : HasFront l.text l.position;
}

abbrev pub decreases-loop-position : goal.decreases-loop-position
decreases-loop-position l = length l.text - l.position
