use Rattle.std.proofs.Common.{◌≡◌, map, take}
use Rattle.std.specs.Prelude.{option_map}
use Rattle.elaboration.specs.kept.Numbered.{ref_at}
use Rattle.elaboration.proofs.start.nodes.Given as goal

abbrev pub invariant-loop-terminal : goal.invariant-loop-terminal
invariant-loop-terminal l = l.nodes.items ≡ map (option_map (ref_at l.scope)) (take l.terminal-index l.terminals)
