use Rattle.std.proofs.Common.{◌≡◌, refl, ◌∙◌, ◌<◌, ap, sym, subst, Some, true, false, arith}
use Rattle.std.proofs.Math.Bool.{and-false}
use Rattle.std.proofs.lemmas.Option.{get_or_from_slice_get}
use Rattle.gatestep.specs.Tasks.{IsReady}
use Rattle.design.specs.Keys.{connection_in, entry_in, netlist}
use Rattle.design.specs.kept.Lawful.{IsGate}
use Rattle.design.specs.Netlist.{gate_named}
use Rattle.waveform.specs.kept.Entries.{CanStore}
use Rattle.waveform.specs.declared.times.TheConstants.{TIME_END}
use Rattle.scratch.specs.Run.{state_after, state_before}
use Rattle.rundiff.specs.Dirty.{is_dirty}
use Rattle.rundiff.specs.kept.Places.{blank_gate, gate_at}
use Rattle.rundiff.specs.kept.Kept.{read_at}
use Rattle.scratch.specs.Work.{is_stirred, task_at}
use Rattle.scratch.proofs.Moments.{map_twice}
use Rattle.scratch.proofs.Runs.{can_store}
use Rattle.rundiff.proofs.Clean.{clean_after}
use Rattle.rundiff.proofs.Known.{known_gate}
use Rattle.rundiff.proofs.OneGate.{clean_known, rests}
use Rattle.rundiff.proofs.looking.look.Goals as goal

pub is_dirty-requires-clause-inputs : goal.is_dirty-requires-clause-inputs
is_dirty-requires-clause-inputs g c =
    let nets = c.args.former.now.new.now.nets in
    c.inputs_at-inputs.ensures
    ∙ sym (map_twice (connection_in nets) (λ x. read_at g.S.Stepper.answer (netlist c.args.former.now.new.now) x c.args.t) c.gate_at-gate.result.now.inputs)

pub is_stirred-requires-clause-inputs : goal.is_stirred-requires-clause-inputs
is_stirred-requires-clause-inputs g c =
    let nets = c.args.former.now.new.now.nets in
    c.inputs_at-inputs.ensures
    ∙ sym (map_twice (connection_in nets) (λ x. read_at g.S.Stepper.answer (netlist c.args.former.now.new.now) x c.args.t) c.gate_at-gate.result.now.inputs)

pub returns-then-not-is_dirty : goal.returns-then-not-is_dirty
returns-then-not-is_dirty g c =
    let answer = g.S.Stepper.answer in
    let old = netlist c.args.former.now.old.now in
    let keyed = c.args.former.now.new.now in let new = netlist keyed in
    let gate = entry_in keyed.nets c.gate_at-gate.result.now in
    let at : gate_at new c.args.place ≡ gate = get_or_from_slice_get new.gates c.args.place gate blank_gate c.gate_at-gate.ensures.named in
    let clean : is_dirty answer old new gate c.args.t ≡ false = sym c.is_dirty.ensures ∙ c.if-not-is_dirty.true in
    let named : gate_named old c.as_str.result.now ≡ Some gate = ap (gate_named old) (c.as_str.ensures ∙ c.name.ensures) ∙ known_gate old c.lawful.ensures.design gate (clean_known answer old new gate c.args.t clean) in
    rw at (rw clean refl, c.old_state.ensures.state gate named ∙ clean_after answer old new gate c.args.t clean, c.old_state.ensures.can, (c.requires.there, clean))

pub returns-then-not-is_stirred : goal.returns-then-not-is_stirred
returns-then-not-is_stirred g c =
    let answer = g.S.Stepper.answer in
    let laws = g.met.S.Stepper in
    let old = netlist c.args.former.now.old.now in
    let keyed = c.args.former.now.new.now in let new = netlist keyed in
    let gate = entry_in keyed.nets c.gate_at-gate.result.now in
    let at : gate_at new c.args.place ≡ gate = get_or_from_slice_get new.gates c.args.place gate blank_gate c.gate_at-gate.ensures.named in
    let calm : is_stirred answer new gate c.args.t ≡ false = sym c.is_stirred.ensures ∙ c.if-not-is_stirred.true in
    let state : c.gate_state-state.result ≡ state_after answer new gate c.args.t = rw at at c.gate_state-state.ensures.state ∙ rests answer new gate laws.answer_stays c.args.t calm in
    let is : IsGate gate = subst IsGate at (c.lawful-2.ensures.design.gates c.args.place blank_gate c.requires.there) in
    let low : c.args.t < TIME_END = let h = c.requires.within in let end = c.lawful.ensures.design.horizon in omega arith in
    rw at (rw calm (and-false (is_dirty answer old new gate c.args.t)), state, subst (CanStore c.args.t) (sym state) (can_store answer new laws.answer_pending laws.answer_near gate is c.args.t low))

pub returns : goal.returns
returns g c =
    let answer = g.S.Stepper.answer in
    let old = netlist c.args.former.now.old.now in
    let keyed = c.args.former.now.new.now in let new = netlist keyed in
    let gate = entry_in keyed.nets c.gate_at-gate.result.now in
    let at : gate_at new c.args.place ≡ gate = get_or_from_slice_get new.gates c.args.place gate blank_gate c.gate_at-gate.ensures.named in
    let dirty : is_dirty answer old new gate c.args.t ≡ true = sym c.is_dirty.ensures ∙ c.if-not-is_dirty.false in
    let stirred : is_stirred answer new gate c.args.t ≡ true = sym c.is_stirred.ensures ∙ c.if-not-is_stirred.false in
    let state : c.gate_state-state.result ≡ state_before answer new c.args.t gate = rw at at c.gate_state-state.ensures.state in
    let inputs : c.inputs_at-inputs.result ≡ (task_at answer new gate c.args.t).inputs =
    c.inputs_at-inputs.ensures ∙ sym (map_twice (connection_in keyed.nets) (λ x. read_at answer new x c.args.t) c.gate_at-gate.result.now.inputs) in
    let task : c.new.result ≡ task_at answer new gate c.args.t =
    c.new.ensures.value ∙ (λ i. record { kind = c.kind.ensures i; delays = c.delays.ensures i; state = state i; inputs = inputs i }) in
    rw at (rw (dirty, stirred) refl, task, subst (IsReady c.args.t) (sym c.new.ensures.value) c.gate_state-state.ensures.ready)
