use Rattle.std.proofs.Common.{arith}
use Rattle.std.proofs.lemmas.Grind.{common_steps}
use Rattle.waveform.proofs.Lists.{last_or-map}
use Rattle.waveform.proofs.entries.reaches.Goals as goal

pub returns-in-Some : goal.returns-in-Some
returns-in-Some g c =
    let last = last_or-map g.V.Sample.stored c.args.entries.now in
    grind (arith, common_steps)
