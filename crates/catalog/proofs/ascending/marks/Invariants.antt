use Rattle.catalog.proofs.GapLemmas.{AreMarked}
use Rattle.catalog.proofs.ascending.marks.Given as goal

abbrev pub invariant-loop-place : goal.invariant-loop-place
invariant-loop-place l = AreMarked l.numbers.items l.marks.items l.place l.mark
