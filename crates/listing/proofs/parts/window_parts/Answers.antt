use Rattle.std.proofs.Common.{arith}
use Rattle.std.proofs.lemmas.Grind.{common_steps}
use Rattle.listing.proofs.PartLemmas.{one_part_more}
use Rattle.listing.proofs.parts.window_parts.Goals as goal

pub loop-number-preserved : goal.loop-number-preserved
loop-number-preserved g c =
    let more = one_part_more c.args.wave.now c.args.from c.args.to c.args.parts c.loop-number.number in
    rw more (grind (arith, common_steps))
