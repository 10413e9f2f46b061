use Rattle.std.proofs.Common.{◌∙◌, sym, None, Some, map}
use Rattle.gateline.proofs.Lists.{found_at, none_at}
use Rattle.gateline.proofs.OldReads.{lent_at, reads}
use Rattle.gateline.proofs.old_line.old_value.Goals as goal

pub returns-in-Some : goal.returns-in-Some
returns-in-Some c =
    let lent = c.args.waves.now in let place = c.in-At.place in let wave = c.in-Some.wave.now in
    let there = found_at lent place wave c.in-Some.ensures.lookup.0 c.in-Some.ensures.lookup.1 in
    c.at_near.ensures ∙ sym (reads (map (λ w. w.now) lent) c.args.input place (Some wave.now) c.args.t c.in-At.is (lent_at lent place (Some wave) there))

pub returns-in-None : goal.returns-in-None
returns-in-None c =
    let lent = c.args.waves.now in let place = c.in-At.place in
    sym (reads (map (λ w. w.now) lent) c.args.input place None c.args.t c.in-At.is (lent_at lent place None (none_at lent place c.in-None.ensures.lookup.0)))
