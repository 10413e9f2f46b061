use Rattle.std.proofs.Common.{arith}
use Rattle.std.proofs.lemmas.Grind.{common_steps}
use Rattle.listing.proofs.ListLemmas.{take_one_more}
use Rattle.listing.proofs.gate_lines.gates.Goals as goal

pub loop-place-preserved : goal.loop-place-preserved
loop-place-preserved g c = let more = take_one_more _ c.loop-place.place _ c.gate_at.ensures.named in rw more (grind (arith, common_steps))
