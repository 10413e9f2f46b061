use Rattle.std.proofs.Common.{◌≡◌, ◌∙◌, ap, sym, ℕ, false, map, take_all, option_map}
use Rattle.fourstate.specs.declared.value.Value.{Value}
use Rattle.fourstate.specs.Nets.{net_of}
use Rattle.gatestep.specs.Step.{due}
use Rattle.catalog.specs.kept.Catalog.{place_of}
use Rattle.design.specs.Keys.{netlist}
use Rattle.scratch.specs.Run.{state_before}
use Rattle.rundiff.specs.kept.Places.{gate_at}
use Rattle.rundiff.proofs.Driven.{driven_is}
use Rattle.rundiff.proofs.reading.driven_value.Goals as goal

pub returns : goal.returns
returns g c =
    let answer = g.S.Stepper.answer in
    let keyed = c.args.former.now.new.now in
    let d = netlist keyed in
    let key = c.net_key_at.result in
    let n = c.net_at-net.result.now in
    let driven : n.is_input ≡ false = sym c.is_input.ensures ∙ c.if-is_input.false in
    let states : ℕ → Value = λ place. (due (state_before answer d c.args.t (gate_at d place)) c.args.t).current in
    let whole = c.loop-driver.invariant ∙ ap (map (λ gate. option_map states (place_of keyed.gates gate))) (take_all c.loop-driver.driver-index c.drivers-drivers.result.now c.loop-driver-test.false ∙ c.drivers-drivers.ensures.drivers) in
    driven_is answer keyed key c.args.place c.args.t n c.loop-driver.values.items c.resolve.result c.net_at-net.ensures (c.net_key_at.ensures.net ∙ c.net_at-net.ensures) driven
    (c.places_are_keys.ensures.drivers key) whole
    (c.resolve.ensures ∙ ap (λ (kind : _). net_of kind c.as_slice.result.now) c.kind.ensures ∙ ap (net_of n.kind) c.as_slice.ensures)
