use Rattle.std.proofs.Common.{◌≡◌, cond, take, ap, ◌∙◌, arith}
use Rattle.std.proofs.lemmas.List.{take_all}
use Rattle.catalog.specs.kept.Catalog.{keys_of}
use Rattle.design.specs.kept.Keys.{is_among}
use Rattle.design.specs.kept.Lists.{list_of, with_key_in}
use Rattle.design.proofs.EntryLemmas.{keys_apart}
use Rattle.design.proofs.OrderLemmas.{with_twice}
use Rattle.design.proofs.WiringLemmas.{among_turn, changed_in_order}
use Rattle.design.proofs.wiring.add_among.Goals as goal

pub add_terminal-requires-clause-ordered : goal.add_terminal-requires-clause-ordered
add_terminal-requires-clause-ordered c =
    changed_in_order c.args.gates.now (is_among (take c.loop-terminal.terminal-index c.args.inputs.now)) c.args.key c.args.lists.now c.loop-terminal.lists (keys_apart c.args.gates.now c.lawful.ensures.keys) c.requires.ordered c.loop-terminal.invariant

pub loop-terminal-preserved : goal.loop-terminal-preserved
loop-terminal-preserved c =
    let gates = c.args.gates.now in
    among_turn c.args.inputs.now c.loop-terminal.terminal-index c.terminal-item.result (with_key_in (keys_of gates) c.args.key) c.args.lists.now c.loop-terminal.lists c.add_terminal.new.lists (λ list. with_twice gates c.args.key list (keys_apart gates c.lawful.ensures.keys))
    c.loop-terminal-test.true c.terminal-item.is c.loop-terminal.invariant c.in_ok-add_terminal.ensures

pub returns : goal.returns
returns c =
    let whole : take c.loop-terminal.terminal-index c.args.inputs.now ≡ c.args.inputs.now = take_all c.loop-terminal.terminal-index c.args.inputs.now (omega arith) in
    λ k. c.loop-terminal.invariant k
    ∙ ap (λ l. cond (is_among l k) (with_key_in (keys_of c.args.gates.now) c.args.key (list_of c.args.lists.now k)) (list_of c.args.lists.now k)) whole
