use Rattle.std.proofs.Common.{◌<◌, ◌≤◌, ap, refl, length, arith}
use Rattle.std.proofs.lemmas.List.{length-map}
use Rattle.std.proofs.lemmas.Option.{slice_get_read}
use Rattle.design.specs.Keys.{netlist}
use Rattle.scratch.proofs.Complete.{all_completed, none_completed, one_completed, one_left}
use Rattle.scratch.proofs.completing.complete_waves.Goals as goal

pub loop-place-init : goal.loop-place-init
loop-place-init g c = none_completed g.S.Stepper.answer (netlist c.args.design.now) c.args.waves.now.items c.requires.waves

pub complete_wave-requires-clause-there : goal.complete_wave-requires-clause-there
complete_wave-requires-clause-there g c =
    let as_many = simp length-map at (ap length c.requires.waves) in let end = c.len-place-end.ensures in let whole = c.args.waves.now.ok.0 in
    omega (arith, as_many, end, whole)

pub complete_wave-requires-clause-wave : goal.complete_wave-requires-clause-wave
complete_wave-requires-clause-wave g c =
    let d = netlist c.args.design.now in let waves = c.loop-place.waves.items in
    let within : c.loop-place.place < length waves =
    (let as_many = simp length-map at (ap length c.requires.waves) in let now = c.loop-place.invariant.as_many in let whole = c.args.waves.now.ok.0 in omega (arith, as_many, now, whole)) in
    one_left g.S.Stepper.answer d c.loop-place.place waves c.index_mut.result.now c.loop-place.invariant
    (slice_get_read waves (length waves) c.loop-place.place c.index_mut.result.now refl within c.index_mut.ensures.value)

pub loop-place-preserved : goal.loop-place-preserved
loop-place-preserved g c =
    let d = netlist c.args.design.now in let waves = c.loop-place.waves.items in
    let within : c.loop-place.place < length waves =
    (let as_many = simp length-map at (ap length c.requires.waves) in let now = c.loop-place.invariant.as_many in let whole = c.args.waves.now.ok.0 in omega (arith, as_many, now, whole)) in
    one_completed g.S.Stepper.answer d c.loop-place.place waves c.complete_wave.new.wave within c.loop-place.invariant c.in_ok-complete_wave.ensures

pub returns : goal.returns
returns g c =
    let d = netlist c.args.design.now in let waves = c.loop-place.waves.items in
    let past : length waves ≤ c.loop-place.place =
    (let as_many = simp length-map at (ap length c.requires.waves) in let now = c.loop-place.invariant.as_many in let whole = c.args.waves.now.ok.0 in omega (arith, as_many, now, whole)) in
    all_completed g.S.Stepper.answer d c.loop-place.place waves past c.loop-place.invariant
