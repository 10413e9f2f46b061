use Rattle.std.proofs.Common.{take}
use Rattle.design.specs.kept.Keys.{is_among}
use Rattle.design.specs.kept.Lists.{AreChanged, without_key}
use Rattle.design.proofs.wiring.remove_among.Given as goal

-- the lists are changed for the terminals so far
abbrev pub invariant-loop-terminal : goal.invariant-loop-terminal
invariant-loop-terminal l = AreChanged (is_among (take l.terminal-index l.inputs)) (λ list. without_key list l.fn.key) l.fn.lists l.lists
