use Rattle.std.proofs.Common.{◌∙◌, ◌<◌, ◌-◌, ap, suc, arith, ℕ}
use Rattle.design.specs.Keys.{netlist}
use Rattle.scratch.specs.Run.{state_after, state_before}
use Rattle.scratch.proofs.Runs.{settled}
use Rattle.rundiff.specs.kept.Fronts.{named_state}
use Rattle.rundiff.specs.kept.Places.{blank_gate, gate_at}
use Rattle.rundiff.proofs.Tasks.{next_one, old_settled}
use Rattle.rundiff.proofs.reading.gate_state.Goals as goal

pub returns-clause-state : goal.returns-clause-state
returns-clause-state g c =
    let answer = g.S.Stepper.answer in
    let pending = g.met.S.Stepper.answer_pending in
    let old = netlist c.args.former.now.old.now in
    let keyed = c.args.former.now.new.now in
    let new = netlist keyed in
    let gate = gate_at new c.args.place in
    let some : 0 < c.args.t = let h = c.if-t-eq0.false in omega arith in
    let stored = c.former_trace-was.ensures answer c.requires.run in
    let is = c.lawful-2.ensures.design.gates c.args.place blank_gate c.requires.there in
    let below : c.args.t - 1 < suc old.horizon = let h = c.requires.within in omega arith in
    let known : c.args.t - 1 < c.args.t = omega arith in
    c.value_at.ensures.value (state_after answer new gate) (named_state answer old gate.name) (suc old.horizon) c.args.t (settled answer new pending gate is)
    (old_settled answer old pending gate.name c.lawful.ensures.design.gates) stored below known (c.requires.traces c.args.place c.requires.there)
    ∙ ap (λ (t : ℕ). state_before answer new t gate) (next_one c.args.t some)
