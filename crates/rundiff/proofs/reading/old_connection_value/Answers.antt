use Rattle.std.proofs.Common.{◌≡◌, ◌∙◌, ◌<◌, ap, sym, refl, suc, arith, ℕ, List}
use Rattle.fourstate.specs.declared.value.Value.{Value}
use Rattle.fourstate.specs.declared.value.Value.TheVariants.{Unknown}
use Rattle.design.specs.Connections.{to_net}
use Rattle.design.specs.Keys.{connection_in, name_of, netlist}
use Rattle.waveform.specs.Changes.{wave_changes_below}
use Rattle.waveform.specs.Entries.{standing}
use Rattle.waveform.specs.Timelines.{value_by}
use Rattle.rundiff.specs.kept.Kept.{read_at}
use Rattle.rundiff.proofs.reading.old_connection_value.Goals as goal

pub returns-in-Net : goal.returns-in-Net
returns-in-Net c = λ answer run.
    let old = netlist c.args.former.now.old.now in
    let nets = c.args.former.now.new.now.nets in
    let name = name_of nets c.in-Net.net in
    let named : c.as_str.result.now ≡ name = c.as_str.ensures ∙ c.name_of.ensures in
    let stored = c.old_wave.ensures answer run ∙ ap (λ (name : List ℕ). wave_changes_below (read_at answer old (to_net name)) (suc old.horizon)) named in
    let below : c.args.m < suc old.horizon = let h = c.requires.within in omega arith in
    c.at.ensures.value
    ∙ ap (λ (xs : List (ℕ × Value)). value_by standing Unknown xs c.args.m) stored
    ∙ c.value_of_changes.ensures (read_at answer old (to_net name)) (λ t. refl) c.args.m (suc old.horizon) below
    ∙ ap (λ terminal. read_at answer old (connection_in nets terminal) c.args.m) (sym c.in-Net.is)
