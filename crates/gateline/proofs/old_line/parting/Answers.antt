use Rattle.std.proofs.Common.{◌∙◌, ap, sym, Some, map}
use Rattle.gateline.proofs.Lists.{found_at}
use Rattle.gateline.proofs.OldReads.{lent_at, reads}
use Rattle.gateline.proofs.old_line.parting.Goals as goal
use Rattle.waveform.specs.Changes.{wave_at}

pub returns : goal.returns
returns c = λ t early.
    let lent = c.args.olds.now in let waves = c.args.waves.now in let place = c.in-At.place in let old = c.in-Some.old.now in let wave = c.in-Some-get.wave.now in
    let old_there = found_at lent place old c.in-Some.ensures.lookup.0 c.in-Some.ensures.lookup.1 in
    let there = found_at waves place wave c.in-Some-get.ensures.lookup.0 c.in-Some-get.ensures.lookup.1 in
    reads (map (λ w. w.now) lent) c.args.input place (Some old.now) t c.in-At.is (lent_at lent place (Some old) old_there)
    ∙ c.parting.ensures.before t early ∙ ap (λ w. wave_at w t) c.value.ensures
    ∙ sym (reads waves c.args.input place (Some wave) t c.in-At.is there)
