use Rattle.std.proofs.Common.{◌≡◌}
use Rattle.racer.specs.Turns.{in_turn}
use Rattle.racer.proofs.take_turns.dealt.Given as goal

abbrev pub invariant-commits : goal.invariant-commits
invariant-commits l = (l.first.items, l.second.items) ≡ in_turn l.yielded
