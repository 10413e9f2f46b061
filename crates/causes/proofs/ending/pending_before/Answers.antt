use Rattle.std.proofs.Common.{◌≡◌, ◌<◌, ◌-◌, ◌∙◌, ap, arith}
use Rattle.gatestep.specs.Step.{State, advance}
use Rattle.design.specs.Keys.{entry_in, netlist}
use Rattle.design.specs.kept.Keys.{gate_by_key}
use Rattle.scratch.specs.Run.{state_after, state_before}
use Rattle.causes.proofs.ChangeLemmas.{if_some}
use Rattle.causes.proofs.EndLemmas.{before_later}
use Rattle.causes.proofs.ending.pending_before.Goals as goal

pub returns : goal.returns
returns c =
    let d = c.args.design.now in
    let later : 0 < c.args.t = omega (arith, c.if-t-eq0.false) in
    if_some (gate_by_key d c.args.gate) (λ g. c.state_after.result ≡ state_after advance (netlist d) (entry_in d.nets g) (c.args.t - 1)) (λ g. c.pending.result ≡ (state_before advance (netlist d) c.args.t (entry_in d.nets g)).pending)
    c.state_after.ensures (λ g found is. c.pending.ensures ∙ ap (λ (s : State). s.pending) (is ∙ before_later (netlist d) (entry_in d.nets g) c.args.t later))
