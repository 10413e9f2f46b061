use Rattle.std.proofs.Common.{arith}
use Rattle.std.proofs.lemmas.Grind.{common_steps}
use Rattle.waveform.proofs.Lists.{last_read}
use Rattle.waveform.proofs.entries.last_entry.Goals as goal

pub returns : goal.returns
returns g c = grind (arith, common_steps, last_read g.V.Sample.stored c.args.entries.now)
