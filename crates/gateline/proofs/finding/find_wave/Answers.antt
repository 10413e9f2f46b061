use Rattle.std.proofs.Common.{◌≡◌, ◌+◌, ◌∙◌, ap, sym, subst, suc, map, All, IfSome, Some, slice_get, arith}
use Rattle.std.specs.Option.{option_map}
use Rattle.std.proofs.lemmas.Option.{slice_get-map}
use Rattle.design.specs.Keys.{netlist}
use Rattle.design.specs.Netlist.{stimulus}
use Rattle.design.specs.kept.Places.{driver_places}
use Rattle.gateline.proofs.Lists.{found_at, if_ok_then}
use Rattle.gateline.proofs.Lone.{input_wave_is, lone_at, lone_traced, lone_wave}
use Rattle.gateline.proofs.Merging.{merged}
use Rattle.gateline.proofs.Nets.{drivers_at}
use Rattle.gateline.proofs.Several.{all_below, found_below, merged_wave}
use Rattle.gateline.proofs.finding.find_wave.Goals as goal
use Rattle.gateline.specs.kept.Known.{AreTraced, IsTraceBelow, current_by}
use Rattle.scratch.proofs.Lists.{of_there}
use Rattle.scratch.specs.Run.{wave_of}
use Rattle.waveform.specs.Changes.{wave_changes_below}
use Rattle.waveform.specs.kept.Currents.{currents}

pub driver_wave-requires-clause-trace : goal.driver_wave-requires-clause-trace
driver_wave-requires-clause-trace g c =
    let answer = g.S.Stepper.answer in let law = g.met.S.Stepper in let d = netlist c.args.design.now in let n = c.net_at-net.result.now in let traces = c.args.traces.now in
    let there : slice_get d.nets c.args.place ≡ Some n = c.net_at-net.ensures in
    let traced = of_there (slice_get d.nets c.args.place) n (λ n. AreTraced answer d traces (driver_places d.gates n.name)) there c.requires.traced in
    let are = c.lawful.ensures.design.gates in let k = c.in-Some.driver in let line = c.in-Some-get.trace.now in
    let lone = lone_at d c.args.wiring.now.lone_drivers.items c.args.place n k c.index.result.now c.requires.wired.lone_drivers there c.index.ensures c.in-Some.is in
    let here : slice_get traces k ≡ Some line = found_at traces k line c.in-Some-get.ensures.lookup.0 c.in-Some-get.ensures.lookup.1 in
    let end : suc d.horizon ≡ c.horizon-in-Some-get.result + 1 = (let is = c.horizon-in-Some-get.ensures.horizon in omega arith) in
    subst (IsTraceBelow (c.horizon-in-Some-get.result + 1)) (sym c.value.ensures) (subst (λ m. IsTraceBelow m line) end
    (found_below answer d are law.answer_pending law.answer_current c.value_of_changes.ensures c.changes_lie_before.ensures traces k line (lone_traced answer d are traces n k lone traced) here))

pub returns-in-Some-get : goal.returns-in-Some-get
returns-in-Some-get g c =
    let answer = g.S.Stepper.answer in let law = g.met.S.Stepper in let d = netlist c.args.design.now in let n = c.net_at-net.result.now in let traces = c.args.traces.now in
    let there : slice_get d.nets c.args.place ≡ Some n = c.net_at-net.ensures in
    let traced = of_there (slice_get d.nets c.args.place) n (λ n. AreTraced answer d traces (driver_places d.gates n.name)) there c.requires.traced in
    let are = c.lawful.ensures.design.gates in let k = c.in-Some.driver in let line = c.in-Some-get.trace.now in
    let lone = lone_at d c.args.wiring.now.lone_drivers.items c.args.place n k c.index.result.now c.requires.wired.lone_drivers there c.index.ensures c.in-Some.is in
    let here : slice_get traces k ≡ Some line = found_at traces k line c.in-Some-get.ensures.lookup.0 c.in-Some-get.ensures.lookup.1 in
    let end : suc d.horizon ≡ c.horizon-in-Some-get.result + 1 = (let is = c.horizon-in-Some-get.ensures.horizon in omega arith) in
    if_ok_then c.driver_wave.result
    (λ wave is. ap (λ w. Some w) (is ∙ ap (λ w. wave_changes_below (currents w) (c.horizon-in-Some-get.result + 1)) c.value.ensures ∙ ap (wave_changes_below (currents line)) (sym end)
    ∙ lone_wave answer d are law.answer_pending law.answer_current c.value_of_changes.ensures c.same_changes.ensures (c.net_by_places.ensures d) traces n k line lone traced here)
    ∙ sym (slice_get-map (wave_of answer d) d.nets c.args.place ∙ ap (option_map (wave_of answer d)) there))
    c.driver_wave.ensures

pub returns-then-is_input : goal.returns-then-is_input
returns-then-is_input g c =
    let answer = g.S.Stepper.answer in let law = g.met.S.Stepper in let d = netlist c.args.design.now in let n = c.net_at-net.result.now in let traces = c.args.traces.now in
    let there : slice_get d.nets c.args.place ≡ Some n = c.net_at-net.ensures in
    let end : c.horizon.result + 1 ≡ suc d.horizon = (let is = c.horizon.ensures.horizon in omega arith) in
    if_ok_then c.input_wave.result
    (λ wave is. ap (λ w. Some w) (is ∙ ap (wave_changes_below (stimulus n.points)) end ∙ input_wave_is answer d n (sym c.is_input.ensures ∙ c.if-is_input.true))
    ∙ sym (slice_get-map (wave_of answer d) d.nets c.args.place ∙ ap (option_map (wave_of answer d)) there))
    c.input_wave.ensures

pub driver_waves-requires-clause-traces : goal.driver_waves-requires-clause-traces
driver_waves-requires-clause-traces g c =
    let answer = g.S.Stepper.answer in let law = g.met.S.Stepper in let d = netlist c.args.design.now in let n = c.net_at-net.result.now in let traces = c.args.traces.now in
    let there : slice_get d.nets c.args.place ≡ Some n = c.net_at-net.ensures in
    let traced = of_there (slice_get d.nets c.args.place) n (λ n. AreTraced answer d traces (driver_places d.gates n.name)) there c.requires.traced in
    let are = c.lawful.ensures.design.gates in
    let places : c.as_slice.result.now ≡ driver_places d.gates n.name =
    c.as_slice.ensures ∙ drivers_at d c.args.wiring.now.drivers.items c.args.place n c.index-2.result.now c.requires.wired.drivers there c.index-2.ensures in
    let end : suc d.horizon ≡ c.horizon-end.result + 1 = (let is = c.horizon-end.ensures.horizon in omega arith) in
    let below = all_below answer d are law.answer_pending law.answer_current c.value_of_changes.ensures c.changes_lie_before.ensures traces (driver_places d.gates n.name) traced in
    subst (λ ps. All (λ place. IfSome (slice_get traces place) (IsTraceBelow (c.horizon-end.result + 1))) ps) (sym places)
    (subst (λ m. All (λ place. IfSome (slice_get traces place) (IsTraceBelow m)) (driver_places d.gates n.name)) end below)

pub returns : goal.returns
returns g c =
    let answer = g.S.Stepper.answer in let law = g.met.S.Stepper in let d = netlist c.args.design.now in let n = c.net_at-net.result.now in let traces = c.args.traces.now in
    let there : slice_get d.nets c.args.place ≡ Some n = c.net_at-net.ensures in
    let traced = of_there (slice_get d.nets c.args.place) n (λ n. AreTraced answer d traces (driver_places d.gates n.name)) there c.requires.traced in
    let are = c.lawful.ensures.design.gates in
    let places : c.as_slice.result.now ≡ driver_places d.gates n.name =
    c.as_slice.ensures ∙ drivers_at d c.args.wiring.now.drivers.items c.args.place n c.index-2.result.now c.requires.wired.drivers there c.index-2.ensures in
    let end : suc d.horizon ≡ c.horizon-end.result + 1 = (let is = c.horizon-end.ensures.horizon in omega arith) in
    let waves = c.in_ok-waves.waves.items in
    let are_waves : waves ≡ map (λ place. wave_changes_below (current_by traces place) (suc d.horizon)) (driver_places d.gates n.name) =
    c.in_ok-waves.ensures
    ∙ ap (map (λ place. wave_changes_below (current_by traces place) (c.horizon-end.result + 1))) places
    ∙ ap (λ m. map (λ place. wave_changes_below (current_by traces place) m) (driver_places d.gates n.name)) (sym end) in
    let given : c.as_slice-2.result.now ≡ waves = c.as_slice-2.ensures.value in
    let merged_is : wave_changes_below (merged n.kind waves) (suc d.horizon) ≡ wave_of answer d n =
    merged_wave answer d are law.answer_pending law.answer_current c.value_of_changes.ensures c.same_changes.ensures c.value_of_changes-2.ensures (c.net_by_places.ensures d)
    traces n waves (sym c.is_input.ensures ∙ c.if-is_input.false) traced are_waves in
    if_ok_then c.merge_waves.result
    (λ wave is. ap (λ w. Some w)
    (is ∙ (λ i. wave_changes_below (merged (c.kind.ensures i) (given i)) (c.horizon-end.result + 1)) ∙ ap (wave_changes_below (merged n.kind waves)) (sym end) ∙ merged_is)
    ∙ sym (slice_get-map (wave_of answer d) d.nets c.args.place ∙ ap (option_map (wave_of answer d)) there))
    c.merge_waves.ensures
