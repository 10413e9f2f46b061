use Rattle.std.proofs.Common.{◌≡◌, ◌∙◌, ap, sym, subst, refl, None, Some, slice_get}
use Rattle.fourstate.specs.declared.value.Value.TheVariants.{Unknown}
use Rattle.gateline.proofs.Lists.{found_at, if_ok_then, none_at}
use Rattle.gateline.proofs.Nets.{current_there}
use Rattle.gateline.proofs.Points.{no_change_between}
use Rattle.gateline.proofs.finding.wave_at_place.Goals as goal
use Rattle.gateline.specs.kept.Known.{IsTraceBelow, current_by}
use Rattle.scratch.proofs.Lists.{of_there}
use Rattle.waveform.specs.Changes.{wave_changes_below}
use Rattle.waveform.specs.kept.Currents.{currents}

pub driver_wave-requires-clause-trace : goal.driver_wave-requires-clause-trace
driver_wave-requires-clause-trace c =
    let traces = c.args.traces.now in let place = c.args.place in let line = c.in-Some.trace.now in
    let here : slice_get traces place ≡ Some line = found_at traces place line c.in-Some.ensures.lookup.0 c.in-Some.ensures.lookup.1 in
    subst (IsTraceBelow c.args.end) (sym c.value.ensures) (of_there (slice_get traces place) line (IsTraceBelow c.args.end) here c.requires.trace)

pub returns-in-Some : goal.returns-in-Some
returns-in-Some c =
    let traces = c.args.traces.now in let place = c.args.place in let line = c.in-Some.trace.now in
    let here : slice_get traces place ≡ Some line = found_at traces place line c.in-Some.ensures.lookup.0 c.in-Some.ensures.lookup.1 in
    if_ok_then c.driver_wave.result
    (λ wave is. is ∙ ap (λ w. wave_changes_below (currents w) c.args.end) c.value.ensures ∙ c.same_changes.ensures (currents line) (current_by traces place) c.args.end (λ t low. sym (current_there traces place (Some line) t here)))
    c.driver_wave.ensures

pub returns-in-None : goal.returns-in-None
returns-in-None c =
    let traces = c.args.traces.now in let place = c.args.place in
    let none : slice_get traces place ≡ None = none_at traces place c.in-None.ensures.lookup.0 in
    if_ok_then c.open.result
    (λ wave is. is ∙ sym (c.no_change.ensures (λ t. Unknown) 1 c.args.end c.requires.begun (no_change_between (λ t. Unknown) 0 c.args.end (λ u high low. refl)))
    ∙ c.same_changes.ensures (λ t. Unknown) (current_by traces place) c.args.end (λ t low. sym (current_there traces place None t none)))
    c.open.ensures
