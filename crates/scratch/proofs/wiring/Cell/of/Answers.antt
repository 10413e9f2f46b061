use Rattle.std.proofs.Common.{◌≡◌, map, take, sym, ap, ◌∙◌, arith}
use Rattle.std.proofs.lemmas.List.{take_all}
use Rattle.design.specs.declared.terminal.Terminal.{Terminal}
use Rattle.design.specs.Keys.{connection_in, netlist}
use Rattle.scratch.specs.kept.Kept.{input_of}
use Rattle.scratch.proofs.Moments.{map_twice}
use Rattle.scratch.proofs.wiring.Cell.of.Goals as goal

pub returns : goal.returns
returns c =
    let d = netlist c.args.design.now in let nets = c.args.design.now.nets in
    let terminals = c.inputs-terminals.result.now in
    let whole : take c.loop-terminal.terminal-index terminals ≡ terminals = take_all c.loop-terminal.terminal-index terminals (omega arith) in
    let inputs : c.loop-terminal.inputs.items ≡ map (input_of d) (map (connection_in nets) c.args.gate.now.inputs) =
    c.loop-terminal.invariant ∙ ap (map (λ (t : Terminal). input_of d (connection_in nets t))) (whole ∙ c.inputs-terminals.ensures.inputs) ∙ sym (map_twice (connection_in nets) (input_of d) c.args.gate.now.inputs) in
    let kind = c.kind.ensures in let delays = c.delays.ensures in
    λ i. record { kind = kind i; delays = delays i; inputs = inputs i }
