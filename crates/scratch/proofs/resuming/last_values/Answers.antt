use Rattle.std.proofs.Common.{◌-◌, ◌∙◌, ap, suc, map, arith}
use Rattle.std.proofs.lemmas.List.{take_all}
use Rattle.fourstate.specs.declared.value.Value.TheVariants.{Unknown}
use Rattle.design.specs.Keys.{netlist}
use Rattle.waveform.specs.Entries.{standing}
use Rattle.waveform.specs.Timelines.{value_by}
use Rattle.scratch.specs.Run.{value, wave_of}
use Rattle.scratch.proofs.Copies.{last_value, one_found}
use Rattle.scratch.proofs.resuming.last_values.Goals as goal

pub loop-place-preserved : goal.loop-place-preserved
loop-place-preserved g c =
    let answer = g.S.Stepper.answer in let d = netlist c.args.design.now in let h = c.horizon-horizon.result in let wave = c.wave_at-wave.result.now in
    one_found (wave_of answer d) (λ n. value answer d n (suc d.horizon - 1)) d.nets c.loop-place.place wave c.at.result c.loop-place.values.items c.push.new.self.items
    (λ n at same. c.at.ensures.value ∙ ap (λ w. value_by standing Unknown w h) same ∙ last_value answer d h c.horizon-horizon.ensures.horizon c.value_of_changes.ensures n)
    (c.wave_at-wave.ensures answer c.requires.run) c.loop-place.invariant c.in_ok-push.ensures.items

pub returns : goal.returns
returns g c =
    let d = netlist c.args.design.now in
    c.loop-place.invariant ∙ ap (map (λ n. value g.S.Stepper.answer d n (suc d.horizon - 1))) (take_all c.loop-place.place d.nets (let past = c.loop-place-test.false in omega arith))
