use Rattle.std.proofs.Common.{◌∙◌, suc, inr}
use Rattle.design.specs.Keys.{entry_in, netlist}
use Rattle.waveform.specs.kept.Changes.{trace_below}
use Rattle.rundiff.specs.kept.Fronts.{named_state}
use Rattle.rundiff.specs.kept.Places.{blank_gate}
use Rattle.rundiff.proofs.EachPlace.{line_named}
use Rattle.rundiff.proofs.former.former_trace.Goals as goal

pub returns : goal.returns
returns c = λ answer run.
    let old = netlist c.args.former.now.old.now in let keyed = c.args.former.now.new.now in
    inr (line_named (λ g. g.name) (λ name. trace_below (named_state answer old name) (suc old.horizon)) (netlist keyed).gates c.args.place (entry_in keyed.nets c.gate_at.result.now) blank_gate
    c.as_str-name.result.now c.old_trace.result.now c.gate_at.ensures.named (c.as_str-name.ensures ∙ c.name.ensures) (c.old_trace.ensures answer run))
