use Rattle.std.proofs.Common.{◌≤◌, ◌-◌, ◌++◌, List, All, length}
use Rattle.lexing.specs.Texts.{Spells}
use Rattle.lexing.specs.kept.Texts.{IsInside}
use Rattle.lexing.specs.declared.token.Token.{Token}
use Rattle.lexing.proofs.token_list.tokens.Given as goal

abbrev pub invariant-loop-token : goal.invariant-loop-token
invariant-loop-token l = record {
  within : l.position ≤ length l.text;
  completed : (rest : List Token) → Spells l.text l.position rest → Spells l.text 0 (l.tokens.items ++ rest);
  inside : All (IsInside (length l.text)) l.tokens.items;
}

abbrev pub decreases-loop-token : goal.decreases-loop-token
decreases-loop-token l = length l.text - l.position
