use Rattle.std.proofs.Common.{ℕ, List}
use Rattle.design.specs.kept.Lists.{without_key}
use Rattle.design.proofs.WiringLemmas.{among_turn, without_twice}
use Rattle.design.proofs.wiring.remove_among.Goals as goal

pub loop-terminal-preserved : goal.loop-terminal-preserved
loop-terminal-preserved c =
    among_turn c.args.inputs.now c.loop-terminal.terminal-index c.terminal-item.result (λ (list : List ℕ). without_key list c.args.key) c.args.lists.now c.loop-terminal.lists c.remove_terminal.new.lists (without_twice c.args.key)
    c.loop-terminal-test.true c.terminal-item.is c.loop-terminal.invariant c.in_ok-remove_terminal.ensures
