use Rattle.std.proofs.Common.{map, arith}
use Rattle.std.proofs.lemmas.Grind.{common_steps}
use Rattle.waveform.proofs.Turns.{before_zero}
use Rattle.waveform.proofs.entries.before.Goals as goal

pub returns-then-t-eq0 : goal.returns-then-t-eq0
returns-then-t-eq0 g c =
    let none = before_zero (map g.V.Sample.stored c.args.entries.now) in
    grind (arith, common_steps)
