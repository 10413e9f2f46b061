use Rattle.std.proofs.Common.{◌≡◌, ◌≤◌, length}
use Rattle.lexing.specs.Spaces.{behind_white}
use Rattle.lexing.proofs.spaces.behind_white.Given as goal

abbrev pub invariant-pieces : goal.invariant-pieces
invariant-pieces l = record {
  same : behind_white l.rest ≡ behind_white l.bytes;
  within : length l.rest ≤ length l.bytes;
}

abbrev pub decreases-pieces : goal.decreases-pieces
decreases-pieces l = length l.rest
