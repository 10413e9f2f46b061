use Rattle.std.proofs.Common.{◌∙◌, sym, subst, Some, None}
use Rattle.gateline.proofs.Goes.{goes_same}
use Rattle.gateline.proofs.Lists.{found_at, none_at}
use Rattle.gateline.proofs.OldReads.{reads}
use Rattle.gateline.proofs.reader.Reader.of.Goals as goal
use Rattle.gateline.specs.kept.Readers.{GoesOn}
use Rattle.gateline.specs.kept.Waves.{input_at}
use Rattle.waveform.specs.Changes.{wave_at}

pub returns-in-Some : goal.returns-in-Some
returns-in-Some c =
    let waves = c.args.waves.now in let place = c.in-At.place in let wave = c.in-Some.wave.now in
    let there = found_at waves place wave c.in-Some.ensures.lookup.0 c.in-Some.ensures.lookup.1 in
    goes_same (input_at waves c.args.input) (wave_at wave) c.open.result.value c.open.result.rest.now c.args.t
    (λ u high. reads waves c.args.input place (Some wave) u c.in-At.is there)
    (subst (λ w. GoesOn (wave_at w) c.open.result.value c.open.result.rest.now c.args.t) c.value.ensures c.open.ensures)

pub returns-in-None : goal.returns-in-None
returns-in-None c =
    let waves = c.args.waves.now in
    subst (λ rest. GoesOn (input_at waves c.args.input) c.steady.result.value rest c.args.t) (sym c.steady.ensures.rest)
    (λ u high. reads waves c.args.input c.in-At.place None u c.in-At.is (none_at waves c.in-At.place c.in-None.ensures.lookup.0) ∙ sym c.steady.ensures.value)
