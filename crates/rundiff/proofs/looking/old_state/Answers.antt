use Rattle.std.proofs.Common.{◌<◌, ◌∙◌, ap, suc, arith, ℕ, List}
use Rattle.std.specs.Option.{option_map_or}
use Rattle.gatestep.specs.Step.{State, due, initial}
use Rattle.design.specs.Keys.{netlist}
use Rattle.waveform.specs.Timelines.{value_by}
use Rattle.scratch.specs.Run.{state_after}
use Rattle.rundiff.specs.kept.Fronts.{named_state}
use Rattle.rundiff.proofs.Tasks.{old_settled}
use Rattle.rundiff.proofs.looking.old_state.Goals as goal

pub returns-clause-state : goal.returns-clause-state
returns-clause-state g c = λ gate found.
    let answer = g.S.Stepper.answer in
    let old = netlist c.args.former.now.old.now in
    let name = c.args.name.now in
    let f : ℕ → State = named_state answer old name in
    let below : c.args.t < suc old.horizon = let h = c.requires.within in omega arith in
    c.at.ensures.value
    ∙ ap (λ (xs : List (ℕ × State)). value_by due initial xs c.args.t) (c.old_trace.ensures answer c.requires.run)
    ∙ c.value_of_changes.ensures f (old_settled answer old g.met.S.Stepper.answer_pending name c.lawful.ensures.design.gates) c.args.t (suc old.horizon) below
    ∙ ap (λ o. option_map_or (λ h. state_after answer old h c.args.t) o initial) found
