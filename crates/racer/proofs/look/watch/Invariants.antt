use Rattle.racer.specs.Tallies.{Counts}
use Rattle.racer.proofs.look.watch.Given as goal

abbrev pub invariant-looks : goal.invariant-looks
invariant-looks g l = Counts 0 l._look 0 l.tally
