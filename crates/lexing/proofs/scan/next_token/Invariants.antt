use Rattle.std.proofs.Common.{◌≤◌, ◌-◌, length}
use Rattle.lexing.proofs.TextLemmas.{Reaches}
use Rattle.lexing.proofs.scan.next_token.Given as goal

abbrev pub invariant-loop-position : goal.invariant-loop-position
invariant-loop-position l = record {
  behind : l.from ≤ l.position;
  within : l.position ≤ length l.text;
  reach : Reaches l.text l.from l.position;
}

abbrev pub decreases-loop-position : goal.decreases-loop-position
decreases-loop-position l = length l.text - l.position
