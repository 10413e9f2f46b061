use Rattle.std.proofs.Common.{arith}
use Rattle.std.proofs.lemmas.Grind.{common_steps}
use Rattle.waveform.proofs.Turns.{some_until}
use Rattle.waveform.proofs.entries.value_near.Goals as goal

pub last_entry-requires : goal.last_entry-requires
last_entry-requires g c =
    let some = some_until g.V.Sample.same g.V.Sample.drift _ c.args.t c.requires in
    let until = c.count_near.ensures.until in
    grind (arith, common_steps)
