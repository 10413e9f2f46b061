use Rattle.std.proofs.Common.{◌≤◌, ◌-◌, length, All}
use Rattle.lexing.specs.kept.Texts.{IsInside}
use Rattle.base_tests.proofs.tokens.tokens.Given as goal

-- the tokens so far, and where the next one is looked for
abbrev pub invariant-loop-token : goal.invariant-loop-token
invariant-loop-token g l = record {
  within : l.position ≤ length l.text;
  inside : All (IsInside (length l.text)) l.found.items;
}

abbrev pub decreases-loop-token : goal.decreases-loop-token
decreases-loop-token g l = length l.text - l.position
