use Rattle.std.proofs.Common.{◌≤◌, suc, arith}
use Rattle.design.specs.Keys.{netlist}
use Rattle.event_queue.proofs.Changes.{by_ok}
use Rattle.scratch.specs.Run.{state_after}
use Rattle.scratch.proofs.Runs.{settled}
use Rattle.rundiff.specs.kept.Fronts.{named_state}
use Rattle.rundiff.specs.kept.Places.{blank_gate, gate_at}
use Rattle.rundiff.proofs.Tasks.{old_settled}
use Rattle.rundiff.proofs.gates.put_state.Goals as goal

pub returns-clause-put : goal.returns-clause-put
returns-clause-put g c =
    let answer = g.S.Stepper.answer in
    let pending = g.met.S.Stepper.answer_pending in
    let old = netlist c.args.former.now.old.now in
    let keyed = c.args.former.now.new.now in let new = netlist keyed in
    let gate = gate_at new c.args.place in
    let stored = c.former_trace-was.ensures answer c.requires.run in
    let is = c.lawful-2.ensures.design.gates c.args.place blank_gate c.requires.there in
    let within : c.args.t ≤ suc old.horizon = let h = c.requires.within in omega arith in
    by_ok c.put.result c.put.ensures.made
    (λ made. made (state_after answer new gate) (named_state answer old gate.name) (suc old.horizon) (settled answer new pending gate is) (old_settled answer old pending gate.name c.lawful.ensures.design.gates)
    stored within c.requires.trace c.requires.state)
