use Rattle.std.proofs.Common.{◌≡◌, ◌<◌, ◌+◌, ◌∙◌, ℕ, suc, ap, sym, subst, All, Some, None, length, slice_get, arith}
use Rattle.std.proofs.lemmas.List.{length-map}
use Rattle.gatestep.specs.Step.{State}
use Rattle.catalog.proofs.ListLemmas.{slice_get_some}
use Rattle.design.specs.Keys.{netlist}
use Rattle.waveform.specs.Changes.{wave_changes_below}
use Rattle.waveform.specs.kept.Currents.{GoesOn, currents}
use Rattle.scratch.specs.kept.Kept.{lone_driver}
use Rattle.scratch.specs.kept.Recorded.{recorded_below}
use Rattle.scratch.specs.Run.{state_after, wave_of}
use Rattle.scratch.specs.kept.Run.{trace_of}
use Rattle.scratch.proofs.Complete.{begins, found, goes_on, is_whole, lone_within}
use Rattle.scratch.proofs.Lists.{if_there, of_there}
use Rattle.scratch.proofs.NetSteps.{listed_at}
use Rattle.scratch.proofs.Recorded.{recorded_whole}
use Rattle.scratch.proofs.completing.complete_wave.Goals as goal

pub bounds-traces-driver : goal.bounds-traces-driver
bounds-traces-driver g c =
    let d = netlist c.args.design.now in let lone = c.args.wiring.now.lone_drivers.items in
    let it = slice_get_some d.nets c.args.place c.requires.there in
    let alone : lone_driver d it.0 ≡ Some c.in-Some.driver = listed_at d lone c.args.place it.0 c.index.result.now c.requires.wired.lone_drivers it.1 c.requires.there c.index.ensures ∙ c.in-Some.is in
    let within = lone_within d it.0 c.in-Some.driver alone in
    let as_many = simp length-map at (ap length c.requires.traces) in omega arith

pub append_currents-requires : goal.append_currents-requires
append_currents-requires g c =
    let answer = g.S.Stepper.answer in let law = g.met.S.Stepper in let d = netlist c.args.design.now in let lone = c.args.wiring.now.lone_drivers.items in
    let it = slice_get_some d.nets c.args.place c.requires.there in
    let alone : lone_driver d it.0 ≡ Some c.in-Some.driver = listed_at d lone c.args.place it.0 c.index.result.now c.requires.wired.lone_drivers it.1 c.requires.there c.index.ensures ∙ c.in-Some.is in
    let so = found answer d it.0 c.in-Some.driver c.args.traces.now c.index-traces-driver.result c.lawful.ensures.design.gates alone c.requires.traces c.index-traces-driver.is in
    let end : suc d.horizon ≡ c.horizon.result + 1 = (let is = c.horizon.ensures.horizon in omega arith) in
    record {
      begun = omega arith;
      order = omega arith;
      within = omega arith;
      ends =
          subst (λ l. All (λ e. e.0 < c.horizon.result + 1) l) (sym so.trace)
          (subst (λ n. All (λ (e : ℕ × State). e.0 < n) (trace_of answer d so.gate)) end (c.changes_lie_before.ensures (state_after answer d so.gate) (suc d.horizon)));
      goes_on =
          subst (GoesOn c.index-traces-driver.result) end
          (goes_on answer d law.answer_current law.answer_pending c.value_of_changes.ensures c.same_changes.ensures it.0 c.in-Some.driver c.index-traces-driver.result so);
      wave =
          begins answer d law.answer_current law.answer_pending c.value_of_changes.ensures c.same_changes.ensures it.0 c.in-Some.driver c.index-traces-driver.result so c.args.wave.now (suc d.horizon)
          (of_there (slice_get d.nets c.args.place) it.0 (λ n. c.args.wave.now ≡ recorded_below answer d n (suc d.horizon)) it.1 c.requires.wave);
    }

pub returns-in_ok-append_currents : goal.returns-in_ok-append_currents
returns-in_ok-append_currents g c =
    let answer = g.S.Stepper.answer in let law = g.met.S.Stepper in let d = netlist c.args.design.now in let lone = c.args.wiring.now.lone_drivers.items in
    let it = slice_get_some d.nets c.args.place c.requires.there in
    let alone : lone_driver d it.0 ≡ Some c.in-Some.driver = listed_at d lone c.args.place it.0 c.index.result.now c.requires.wired.lone_drivers it.1 c.requires.there c.index.ensures ∙ c.in-Some.is in
    let so = found answer d it.0 c.in-Some.driver c.args.traces.now c.index-traces-driver.result c.lawful.ensures.design.gates alone c.requires.traces c.index-traces-driver.is in
    let end : c.horizon.result + 1 ≡ suc d.horizon = (let is = c.horizon.ensures.horizon in omega arith) in
    if_there (slice_get d.nets c.args.place) it.0 (λ n. c.append_currents.new.wave ≡ wave_of answer d n) it.1
    (is_whole answer d law.answer_current law.answer_pending c.value_of_changes.ensures c.same_changes.ensures it.0 c.in-Some.driver c.index-traces-driver.result so c.append_currents.new.wave
    (c.in_ok-append_currents.ensures ∙ ap (wave_changes_below (currents c.index-traces-driver.result)) end))

pub returns-in_default : goal.returns-in_default
returns-in_default g c =
    let answer = g.S.Stepper.answer in let d = netlist c.args.design.now in let lone = c.args.wiring.now.lone_drivers.items in
    let it = slice_get_some d.nets c.args.place c.requires.there in
    let none : lone_driver d it.0 ≡ None = listed_at d lone c.args.place it.0 c.index.result.now c.requires.wired.lone_drivers it.1 c.requires.there c.index.ensures ∙ c.in_default.is in
    if_there (slice_get d.nets c.args.place) it.0 (λ n. c.args.wave.now ≡ wave_of answer d n) it.1
    (of_there (slice_get d.nets c.args.place) it.0 (λ n. c.args.wave.now ≡ recorded_below answer d n (suc d.horizon)) it.1 c.requires.wave
    ∙ recorded_whole answer d it.0 (suc d.horizon) none)
