use Rattle.std.proofs.Common.{◌∙◌, ap, refl, sym, option_copied, option_map}
use Rattle.fourstate.specs.declared.value.Value.TheVariants.{Unknown}
use Rattle.fourstate.specs.Values.{same_value}
use Rattle.design.specs.Keys.{netlist}
use Rattle.design.specs.kept.Keys.{net_by_key}
use Rattle.design.specs.Netlist.{net_named}
use Rattle.waveform.specs.Entries.{standing}
use Rattle.scratch.specs.Run.{value, wave_of}
use Rattle.rundiff.proofs.NamedLines.{named_line, none_mapped, unnamed_line}
use Rattle.rundiff.proofs.old.old_wave.Goals as goal

pub returns-in_default : goal.returns-in_default
returns-in_default c = λ answer run.
    let d = netlist c.args.former.now.old.now in let blanks = c.args.former.now.blanks.now in
    unnamed_line same_value standing Unknown (value answer d) d.horizon c.no_change.ensures (λ m. refl) blanks.wave (net_named d c.args.name.now) blanks.wave_is_x (rw c.in_default.is at c.old_net.ensures.absent)

pub returns-in-Some-wave : goal.returns-in-Some-wave
returns-in-Some-wave c = λ answer run.
    let old = c.args.former.now.old.now in let d = netlist old in
    named_line same_value standing Unknown (value answer d) d.horizon c.in-Some-wave.wave.now (net_named d c.args.name.now)
    (sym (ap option_copied c.in-Some-wave.is) ∙ c.wave.ensures ∙ run.waves c.number.result ∙ ap (λ k. option_map (wave_of answer d) (net_by_key old k)) c.number.ensures ∙ ap (option_map (wave_of answer d)) c.in-Some.ensures.net)

pub returns-in-None : goal.returns-in-None
returns-in-None c = λ answer run.
    let old = c.args.former.now.old.now in let d = netlist old in let blanks = c.args.former.now.blanks.now in
    let none = sym (ap option_copied c.in-None.is) ∙ c.wave.ensures ∙ run.waves c.number.result ∙ ap (λ k. option_map (wave_of answer d) (net_by_key old k)) c.number.ensures in
    unnamed_line same_value standing Unknown (value answer d) d.horizon c.no_change.ensures (λ m. refl) blanks.wave (net_named d c.args.name.now) blanks.wave_is_x
    (sym c.in-Some.ensures.net ∙ none_mapped (wave_of answer d) (net_by_key old c.in-Some.key) none)
