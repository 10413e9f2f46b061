use Rattle.std.proofs.Common.{◌≡◌, ◌∙◌, suc}
use Rattle.design.specs.Keys.{entry_in, netlist}
use Rattle.waveform.specs.kept.Changes.{trace_below}
use Rattle.rundiff.specs.kept.Fronts.{named_state}
use Rattle.rundiff.specs.kept.Places.{blank_gate, gate_at}
use Rattle.rundiff.proofs.EachPlace.{line_more, line_named}
use Rattle.rundiff.proofs.old_run.old_traces.Goals as goal

pub loop-place-preserved : goal.loop-place-preserved
loop-place-preserved g c =
    let answer = g.S.Stepper.answer in let old = netlist c.args.former.now.old.now in let keyed = c.args.former.now.new.now in let new = netlist keyed in let place = c.loop-place.place in
    let both =
    line_more (λ trace. trace.now) (λ p trace. trace ≡ trace_below (named_state answer old (gate_at new p).name) (suc old.horizon))
    c.loop-place.traces.items c.push.new.self.items c.old_trace.result place c.in_ok-push.ensures.items c.loop-place.invariant.count c.loop-place.invariant.each
    (line_named (λ g. g.name) (λ name. trace_below (named_state answer old name) (suc old.horizon)) new.gates place (entry_in keyed.nets c.gate_at.result.now) blank_gate c.as_str-name.result.now c.old_trace.result.now
    c.gate_at.ensures.named (c.as_str-name.ensures ∙ c.name.ensures) (c.old_trace.ensures answer c.requires.run)) in
    record { count = both.0; each = both.1 }
