use Rattle.std.proofs.Common.{◌≡◌, ◌∙◌, subst}
use Rattle.gatestep.specs.Step.{advance}
use Rattle.design.specs.Keys.{KeyedGate, entry_in, netlist}
use Rattle.design.specs.kept.Keys.{IsKeyedGate, gate_by_key}
use Rattle.scratch.specs.Run.{state_after}
use Rattle.scratch.specs.kept.Run.{trace_of}
use Rattle.causes.proofs.ChangeLemmas.{if_some, same_gate, settled, state_of_trace}
use Rattle.causes.proofs.change.state_after.Goals as goal

pub returns : goal.returns
returns c =
    let d = c.args.design.now in
    let o = gate_by_key d c.args.gate in
    if_some o (λ g. c.trace_of.result.now ≡ trace_of advance (netlist d) (entry_in d.nets g)) (λ g. c.at.result ≡ state_after advance (netlist d) (entry_in d.nets g) c.args.t) c.trace_of.ensures
    (λ g found is.
    let keeps : IsKeyedGate g = subst (λ (h : KeyedGate). IsKeyedGate h) (same_gate o c.gate_of.result.now g c.gate_of.ensures.gate found) c.lawful.ensures in
    c.at.ensures.value ∙ state_of_trace c.value_of_changes.ensures (netlist d) (entry_in d.nets g) c.trace_of.result.now c.args.t c.requires.within (settled (netlist d) d.nets g keeps) is)
