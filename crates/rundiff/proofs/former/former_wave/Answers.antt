use Rattle.std.proofs.Common.{◌∙◌, suc, inr}
use Rattle.design.specs.Connections.{to_net}
use Rattle.design.specs.Keys.{netlist}
use Rattle.waveform.specs.Changes.{wave_changes_below}
use Rattle.rundiff.specs.kept.Places.{blank_net}
use Rattle.rundiff.specs.kept.Kept.{read_at}
use Rattle.rundiff.proofs.EachPlace.{line_named}
use Rattle.rundiff.proofs.former.former_wave.Goals as goal

pub returns : goal.returns
returns c = λ answer run.
    let old = netlist c.args.former.now.old.now in
    inr (line_named (λ n. n.name) (λ name. wave_changes_below (read_at answer old (to_net name)) (suc old.horizon)) (netlist c.args.former.now.new.now).nets c.args.place c.net_at.result.now blank_net
    c.as_str-name.result.now c.old_wave.result.now c.net_at.ensures (c.as_str-name.ensures ∙ c.name.ensures) (c.old_wave.ensures answer run))
