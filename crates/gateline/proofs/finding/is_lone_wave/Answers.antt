use Rattle.std.proofs.Common.{◌≡◌, ◌∙◌, ap, sym, refl, List, ℕ, map, Some, slice_get}
use Rattle.std.specs.Option.{option_map}
use Rattle.std.proofs.lemmas.Option.{get_or_from_slice_get, slice_get-map}
use Rattle.design.specs.Keys.{netlist}
use Rattle.design.specs.kept.Places.{driver_places}
use Rattle.gatestep.specs.Step.{State}
use Rattle.gateline.proofs.Lists.{some_at}
use Rattle.gateline.proofs.Lone.{lone_at, lone_wave}
use Rattle.gateline.proofs.Marks.{traced_all}
use Rattle.gateline.proofs.finding.is_lone_wave.Goals as goal
use Rattle.scratch.proofs.Lists.{of_there}
use Rattle.scratch.specs.Run.{wave_of}
use Rattle.scratch.specs.kept.Run.{trace_of}

pub returns : goal.returns
returns g c =
    let answer = g.S.Stepper.answer in let law = g.met.S.Stepper in let d = netlist c.args.design.now in let n = c.net_at-net.result.now in let k = c.args.driver in let line = c.args.trace.now in
    let there : slice_get d.nets c.args.place ≡ Some n = c.net_at-net.ensures in
    let traces : List (List (ℕ × State)) = map (trace_of answer d) d.gates in
    let gate = some_at d.gates k c.requires.driver in
    let same = of_there (slice_get d.gates k) gate.0 (λ g. line ≡ trace_of answer d g) gate.1 c.requires.trace in
    let here : slice_get traces k ≡ Some line = slice_get-map (trace_of answer d) d.gates k ∙ ap (option_map (trace_of answer d)) gate.1 ∙ ap (λ l. Some l) (sym same) in
    let are = c.lawful.ensures.design.gates in
    let lone_drivers = c.args.wiring.now.lone_drivers.items in
    let lone = lone_at d lone_drivers c.args.place n k (Some k) c.requires.wired.lone_drivers there (sym (get_or_from_slice_get lone_drivers c.args.place (Some k) (Some k) c.requires.lone)) refl in
    let traced = traced_all answer d traces refl (driver_places d.gates n.name) in
    ap (λ w. Some w) (c.requires.driven
    ∙ lone_wave answer d are law.answer_pending law.answer_current c.value_of_changes.ensures c.same_changes.ensures (c.net_by_places.ensures d) traces n k line lone traced here)
    ∙ sym (slice_get-map (wave_of answer d) d.nets c.args.place ∙ ap (option_map (wave_of answer d)) there)
