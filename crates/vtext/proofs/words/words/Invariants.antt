use Rattle.std.proofs.Common.{◌≡◌, ◌≤◌, ◌-◌, length}
use Rattle.vtext.specs.kept.Keywords.{meanings_of}
use Rattle.vtext.specs.kept.Words.{AreWithin}
use Rattle.vtext.proofs.WordLemmas.{SoFar}
use Rattle.vtext.proofs.words.words.Given as goal

abbrev pub invariant-loop-token : goal.invariant-loop-token
invariant-loop-token l = record {
  within : l.position ≤ length l.text;
  meanings : l.table.meanings.items ≡ meanings_of l.table.names;
  so_far : SoFar l.text l.position l.table.names l.table.directive l.words.items;
  starts : AreWithin l.text l.words.items;
}

abbrev pub decreases-loop-token : goal.decreases-loop-token
decreases-loop-token l = length l.text - l.position
