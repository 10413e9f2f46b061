use Rattle.std.proofs.Common.{◌∙◌, ap, refl, sym, option_copied, option_map}
use Rattle.gatestep.specs.Step.{due, initial}
use Rattle.design.specs.Keys.{entry_in, netlist}
use Rattle.design.specs.kept.Keys.{gate_by_key}
use Rattle.design.specs.Netlist.{gate_named}
use Rattle.waveform.specs.Entries.{same_state}
use Rattle.scratch.specs.Run.{state_after}
use Rattle.scratch.specs.kept.Run.{trace_of}
use Rattle.rundiff.proofs.Finished.{map_both}
use Rattle.rundiff.proofs.NamedLines.{named_line, none_mapped, unnamed_line}
use Rattle.rundiff.proofs.old.old_trace.Goals as goal

pub returns-in_default : goal.returns-in_default
returns-in_default c = λ answer run.
    let d = netlist c.args.former.now.old.now in let blanks = c.args.former.now.blanks.now in
    unnamed_line same_state due initial (state_after answer d) d.horizon c.no_change.ensures (λ m. refl) blanks.trace (gate_named d c.args.name.now) blanks.trace_is_x (rw c.in_default.is at c.old_gate.ensures.absent)

pub returns-in-Some-trace : goal.returns-in-Some-trace
returns-in-Some-trace c = λ answer run.
    let old = c.args.former.now.old.now in let d = netlist old in
    named_line same_state due initial (state_after answer d) d.horizon c.in-Some-trace.trace.now (gate_named d c.args.name.now)
    (sym (ap option_copied c.in-Some-trace.is) ∙ c.trace.ensures ∙ run.traces c.number.result ∙ ap (λ k. option_map (λ g. trace_of answer d (entry_in old.nets g)) (gate_by_key old k)) c.number.ensures
    ∙ map_both (entry_in old.nets) (trace_of answer d) (gate_by_key old c.in-Some.key) ∙ ap (option_map (trace_of answer d)) c.in-Some.ensures.gate)

pub returns-in-None : goal.returns-in-None
returns-in-None c = λ answer run.
    let old = c.args.former.now.old.now in let d = netlist old in let blanks = c.args.former.now.blanks.now in
    let none = sym (ap option_copied c.in-None.is) ∙ c.trace.ensures ∙ run.traces c.number.result ∙ ap (λ k. option_map (λ g. trace_of answer d (entry_in old.nets g)) (gate_by_key old k)) c.number.ensures in
    unnamed_line same_state due initial (state_after answer d) d.horizon c.no_change.ensures (λ m. refl) blanks.trace (gate_named d c.args.name.now) blanks.trace_is_x
    (sym c.in-Some.ensures.gate ∙ ap (option_map (entry_in old.nets)) (none_mapped (λ g. trace_of answer d (entry_in old.nets g)) (gate_by_key old c.in-Some.key) none))
