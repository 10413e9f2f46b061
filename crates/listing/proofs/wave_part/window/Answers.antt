use Rattle.std.proofs.Common.{arith}
use Rattle.std.proofs.lemmas.Grind.{common_steps}
use Rattle.listing.proofs.Rising.{none_between}
use Rattle.listing.proofs.wave_part.window.Goals as goal

pub returns-else-from-to : goal.returns-else-from-to
returns-else-from-to g c = let none = none_between c.args.wave.now c.args.from c.args.to (omega arith) in rw none (grind (arith, common_steps))
