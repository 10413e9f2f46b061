use Rattle.std.proofs.Common.{◌++◌, ◌∙◌, ap, sym, [], ◌∷◌, map, ℕ, List}
use Rattle.std.proofs.lemmas.List.{map_more, take_all}
use Rattle.fourstate.specs.declared.value.Value.{Value}
use Rattle.gateline.proofs.finding.driver_waves.Goals as goal
use Rattle.gateline.specs.kept.Known.{current_by}
use Rattle.waveform.specs.Changes.{wave_changes_below}

pub loop-place-preserved : goal.loop-place-preserved
loop-place-preserved c =
    let places = c.args.places.now in let i = c.loop-place.place-index in
    let wave_of_place : ℕ → List (ℕ × Value) = λ place. wave_changes_below (current_by c.args.traces.now place) c.args.end in
    c.in_ok-push.ensures.items
    ∙ (λ k. c.loop-place.invariant k ++ c.in_ok-wave_at_place.ensures k ∷ [])
    ∙ sym (map_more wave_of_place places i 0 c.loop-place-test.true)

pub returns : goal.returns
returns c =
    c.loop-place.invariant
    ∙ ap (map (λ place. wave_changes_below (current_by c.args.traces.now place) c.args.end)) (take_all c.loop-place.place-index c.args.places.now c.loop-place-test.false)
