use Rattle.std.proofs.Common.{take}
use Rattle.catalog.specs.kept.Catalog.{keys_of}
use Rattle.design.specs.kept.Keys.{is_among}
use Rattle.design.specs.kept.Lists.{AreChanged, with_key_in}
use Rattle.design.proofs.wiring.add_among.Given as goal

-- the lists are changed for the terminals so far
abbrev pub invariant-loop-terminal : goal.invariant-loop-terminal
invariant-loop-terminal l = AreChanged (is_among (take l.terminal-index l.inputs)) (with_key_in (keys_of l.fn.gates) l.fn.key) l.fn.lists l.lists
