use Rattle.std.proofs.Common.{◌≡◌, ◌∙◌, suc}
use Rattle.design.specs.Connections.{to_net}
use Rattle.design.specs.Keys.{netlist}
use Rattle.waveform.specs.Changes.{wave_changes_below}
use Rattle.rundiff.specs.kept.Kept.{read_at}
use Rattle.rundiff.specs.kept.Places.{blank_net, net_at}
use Rattle.rundiff.proofs.EachPlace.{line_more, line_named}
use Rattle.rundiff.proofs.old_run.old_waves.Goals as goal

pub loop-place-preserved : goal.loop-place-preserved
loop-place-preserved g c =
    let answer = g.S.Stepper.answer in let old = netlist c.args.former.now.old.now in let new = netlist c.args.former.now.new.now in let place = c.loop-place.place in
    let both =
    line_more (λ wave. wave.now) (λ p wave. wave ≡ wave_changes_below (read_at answer old (to_net (net_at new p).name)) (suc old.horizon))
    c.loop-place.waves.items c.push.new.self.items c.old_wave.result place c.in_ok-push.ensures.items c.loop-place.invariant.count c.loop-place.invariant.each
    (line_named (λ n. n.name) (λ name. wave_changes_below (read_at answer old (to_net name)) (suc old.horizon)) new.nets place c.net_at.result.now blank_net c.as_str-name.result.now c.old_wave.result.now
    c.net_at.ensures (c.as_str-name.ensures ∙ c.name.ensures) (c.old_wave.ensures answer c.requires.run)) in
    record { count = both.0; each = both.1 }
