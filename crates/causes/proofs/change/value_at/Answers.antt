use Rattle.std.proofs.Common.{◌≡◌, ◌∙◌}
use Rattle.gatestep.specs.Step.{advance}
use Rattle.design.specs.Keys.{netlist}
use Rattle.design.specs.kept.Keys.{net_by_key}
use Rattle.scratch.specs.Run.{value, wave_of}
use Rattle.causes.proofs.ChangeLemmas.{if_some, value_of_wave}
use Rattle.causes.proofs.change.value_at.Goals as goal

pub returns : goal.returns
returns c =
    let d = c.args.design.now in
    if_some (net_by_key d c.args.net) (λ n. c.wave_of.result.now ≡ wave_of advance (netlist d) n) (λ n. c.at.result ≡ value advance (netlist d) n c.args.t) c.wave_of.ensures
    (λ n found is. c.at.ensures.value ∙ value_of_wave c.value_of_changes.ensures (netlist d) n c.wave_of.result.now c.args.t c.requires.within is)
