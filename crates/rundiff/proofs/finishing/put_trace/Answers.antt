use Rattle.std.proofs.Common.{◌≡◌, ◌∙◌, ◌+◌, ap, sym, suc, ℕ, List, Option, Some, subst, arith, option_map}
use Rattle.std.proofs.lemmas.Option.{get_or_from_slice_get}
use Rattle.gatestep.specs.Step.{State, due}
use Rattle.catalog.specs.kept.Catalog.{keys_of}
use Rattle.design.specs.Keys.{KeyedGate, entry_in, netlist}
use Rattle.design.specs.kept.Keys.{gate_by_key}
use Rattle.design.specs.Netlist.{GateEntry}
use Rattle.waveform.specs.kept.Changes.{trace_below}
use Rattle.waveform.specs.Entries.{same_state}
use Rattle.waveform.specs.kept.Patches.{Keeps, PatchRecord}
use Rattle.event_queue.proofs.Changes.{by_ok}
use Rattle.scratch.specs.Run.{state_after}
use Rattle.scratch.specs.kept.Run.{trace_of}
use Rattle.scratch.proofs.Runs.{settled}
use Rattle.rundiff.specs.kept.Finishing.{new_trace}
use Rattle.rundiff.specs.kept.Fronts.{named_state}
use Rattle.rundiff.specs.kept.Places.{blank_gate, gate_at}
use Rattle.rundiff.proofs.Putting.{put_one}
use Rattle.rundiff.proofs.Tasks.{old_settled}
use Rattle.rundiff.proofs.EachPlace.{line_named}
use Rattle.rundiff.proofs.finishing.put_trace.Goals as goal

pub returns-clause-traces : goal.returns-clause-traces
returns-clause-traces g c =
    let answer = g.S.Stepper.answer in
    let pending = g.met.S.Stepper.answer_pending in
    let old = netlist c.args.former.now.old.now in
    let keyed = c.args.former.now.new.now in let new = netlist keyed in
    let place = c.args.place in
    let x = gate_at new place in
    let entry = entry_in keyed.nets c.gate_at.result.now in
    let at : x ≡ entry = get_or_from_slice_get new.gates place entry blank_gate c.gate_at.ensures.named in
    let end : c.horizon.result + 1 ≡ suc new.horizon = let h = c.horizon.ensures.horizon in omega arith in
    let same_end : suc old.horizon ≡ c.horizon.result + 1 = let h = c.horizon.ensures.horizon in let e = c.requires.horizon in omega arith in
    let stored : c.old_trace-was.result.now ≡ trace_below (named_state answer old x.name) (c.horizon.result + 1) =
    line_named (λ g. g.name) (λ name. trace_below (named_state answer old name) (suc old.horizon)) new.gates place entry blank_gate c.as_str.result.now c.old_trace-was.result.now
    c.gate_at.ensures.named (c.as_str.ensures ∙ c.name.ensures) (c.old_trace-was.ensures answer c.requires.run) ∙ ap (trace_below (named_state answer old x.name)) same_end in
    let Keep : Option (PatchRecord State) → ℕ → Type 0 = λ o n. Keeps same_state due (named_state answer old x.name) (state_after answer new x) o n in
    let keeps : Keep c.take.result (c.horizon.result + 1) =
    subst (λ (n : ℕ). Keep c.take.result n) (sym end) (subst (λ (o : Option (PatchRecord State)). Keep o (suc new.horizon)) (sym c.take.ensures.value) c.requires.trace) in
    let is = c.lawful-2.ensures.design.gates place blank_gate c.requires.there in
    let line : c.in_ok-trace.trace ≡ trace_of answer new x =
    c.in_ok-trace.ensures (state_after answer new x) (named_state answer old x.name) (settled answer new pending x is) (old_settled answer old pending x.name c.lawful.ensures.design.gates) stored keeps
    ∙ ap (trace_below (state_after answer new x)) end in
    let found : gate_by_key keyed c.gate_key_at-key.result ≡ Some c.gate_at.result.now = c.gate_key_at-key.ensures.gate ∙ c.gate_at.ensures.gate in
    let trace : KeyedGate → List (ℕ × State) = λ gate. trace_of answer new (entry_in keyed.nets gate) in
    let due_there : new_trace answer keyed c.gate_key_at-key.result ≡ Some c.in_ok-trace.trace =
    ap (option_map trace) found ∙ ap (λ (gate : GateEntry). Some (trace_of answer new gate)) (sym at) ∙ ap (λ (w : List (ℕ × State)). Some w) (sym line) in
    by_ok c.put_trace.result c.put_trace.ensures.ok
    (λ changed. put_one (new_trace answer keyed) (keys_of keyed.gates) place c.number.result c.in_ok-trace.trace c.args.made.now.traces c.put_trace.new.self.traces
    (c.gate_key_at-key.ensures.key ∙ ap (λ (k : ℕ). Some k) (sym c.number.ensures)) (ap (new_trace answer keyed) c.number.ensures ∙ due_there) changed)
