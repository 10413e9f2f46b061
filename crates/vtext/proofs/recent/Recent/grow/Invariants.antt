use Rattle.std.proofs.Common.{ℕ, List, All}
use Rattle.vtext.specs.kept.Recents.{AreRight, IsRight}
use Rattle.vtext.proofs.recent.Recent.grow.Given as goal

abbrev pub invariant-copies : goal.invariant-copies
invariant-copies l = (names : List (List ℕ)) → AreRight names l.fn.self → All (IsRight names) l.entries.items
