use Rattle.std.proofs.Common.{◌≡◌, ◌∙◌, ◌++◌, ◌∷◌, [], ap, sym, suc, map, arith}
use Rattle.std.specs.Option.{option_map_or}
use Rattle.std.proofs.lemmas.List.{take_all}
use Rattle.design.specs.Keys.{netlist}
use Rattle.waveform.specs.Timelines.{entries_until}
use Rattle.scratch.specs.kept.Recorded.{recorded_below}
use Rattle.scratch.specs.Run.{wave_of}
use Rattle.scratch.proofs.Copies.{copied_wave, one_found}
use Rattle.scratch.proofs.NetSteps.{listed_at}
use Rattle.scratch.proofs.resuming.copy_waves.Goals.{in-Some, in-None}
use Rattle.scratch.proofs.resuming.copy_waves.Goals as goal

pub loop-place-preserved : goal.loop-place-preserved
loop-place-preserved g c =
    let answer = g.S.Stepper.answer in let d = netlist c.args.design.now in let h = c.horizon-horizon.result in let wave = c.wave_at-wave.result.now in let old = c.loop-place.waves.items in
    let place = c.loop-place.place in let until = c.match-index.until in let lone = c.args.wiring.now.lone_drivers.items in
    let is : until ≡ option_map_or (λ k. 0) c.index.result.now h =
    elim c.match-index.branch [
      | in-Some w ↦ w.until-is ∙ ap (λ o. option_map_or (λ k. 0) o h) (sym w.in-Some.is)
      | in-None w ↦ w.until-is ∙ ap (λ o. option_map_or (λ k. 0) o h) (sym w.in-None.is)
    ] in
    one_found (wave_of answer d) (λ n. recorded_below answer d n (suc d.horizon)) d.nets place wave (entries_until wave until) old c.push.new.self.items
    (λ n at same.
    ap (λ w. entries_until w until) same
    ∙ copied_wave answer d h c.horizon-horizon.ensures.horizon c.cut_of_changes.ensures n c.index.result.now until
    (listed_at d lone place n c.index.result.now c.requires.wired.lone_drivers at (omega arith) c.index.ensures) is)
    (c.wave_at-wave.ensures answer c.requires.run) c.loop-place.invariant (c.in_ok-push.ensures.items ∙ ap (λ line. old ++ line ∷ []) c.in_ok-fork.ensures.entries)

pub returns : goal.returns
returns g c =
    let d = netlist c.args.design.now in
    c.loop-place.invariant ∙ ap (map (λ n. recorded_below g.S.Stepper.answer d n (suc d.horizon))) (take_all c.loop-place.place d.nets (let past = c.loop-place-test.false in omega arith))
