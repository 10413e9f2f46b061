use Rattle.std.proofs.Common.{◌≡◌, ◌∙◌, ap}
use Rattle.gatestep.specs.Step.{State, advance}
use Rattle.design.specs.Keys.{entry_in, netlist}
use Rattle.design.specs.kept.Keys.{gate_by_key}
use Rattle.scratch.specs.Run.{state_after}
use Rattle.causes.proofs.ChangeLemmas.{at_some, if_some, pending_later}
use Rattle.causes.proofs.EndLemmas.{if_from_for}
use Rattle.causes.proofs.ending.pending_after.Goals as goal

pub returns-clause-pending : goal.returns-clause-pending
returns-clause-pending c =
    let d = c.args.design.now in
    if_some (gate_by_key d c.args.gate) (λ g. c.state_after.result ≡ state_after advance (netlist d) (entry_in d.nets g) c.args.t) (λ g. c.pending.result ≡ (state_after advance (netlist d) (entry_in d.nets g) c.args.t).pending)
    c.state_after.ensures (λ g found is. c.pending.ensures ∙ ap (λ (s : State). s.pending) is)

pub returns-clause-later : goal.returns-clause-later
returns-clause-later c =
    let d = c.args.design.now in
    let g = c.gate_of.result.now in
    let is = at_some (gate_by_key d c.args.gate) g (λ h. c.state_after.result ≡ state_after advance (netlist d) (entry_in d.nets h) c.args.t) c.gate_of.ensures.gate c.state_after.ensures in
    let pending = c.pending.ensures ∙ ap (λ (s : State). s.pending) is in
    if_from_for c.pending.result (state_after advance (netlist d) (entry_in d.nets g) c.args.t).pending c.args.t pending (pending_later (netlist d) d.nets g c.lawful.ensures c.args.t)
