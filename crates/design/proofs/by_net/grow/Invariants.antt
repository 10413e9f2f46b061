use Rattle.std.proofs.Common.{◌≡◌, ℕ, ◌+◌, ◌-◌, length}
use Rattle.design.specs.kept.Lists.{list_of}
use Rattle.design.proofs.by_net.grow.Given as goal

-- the lists are those at the beginning
abbrev pub invariant-loop-lists : goal.invariant-loop-lists
invariant-loop-lists l = (k : ℕ) → list_of l.lists k ≡ list_of l.initial.lists k

abbrev pub decreases-loop-lists : goal.decreases-loop-lists
decreases-loop-lists l = l.net + 1 - length l.lists
