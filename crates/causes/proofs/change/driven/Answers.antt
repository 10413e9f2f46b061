use Rattle.std.proofs.Common.{◌≡◌, ◌∙◌, ap}
use Rattle.gatestep.specs.Step.{State, advance}
use Rattle.design.specs.Keys.{entry_in, netlist}
use Rattle.design.specs.kept.Keys.{gate_by_key}
use Rattle.scratch.specs.Run.{state_after}
use Rattle.causes.specs.Causes.{driven}
use Rattle.causes.proofs.ChangeLemmas.{if_some}
use Rattle.causes.proofs.change.driven.Goals as goal

pub returns : goal.returns
returns c =
    let d = c.args.design.now in
    if_some (gate_by_key d c.args.gate) (λ g. c.state_after.result ≡ state_after advance (netlist d) (entry_in d.nets g) c.args.t) (λ g. c.current.result ≡ driven (netlist d) (entry_in d.nets g) c.args.t)
    c.state_after.ensures (λ g found is. c.current.ensures ∙ ap (λ (s : State). s.current) is)
