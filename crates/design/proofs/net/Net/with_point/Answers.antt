use Rattle.std.proofs.Common.{◌≡◌, true}
use Rattle.std.proofs.lemmas.Bool.{both_ways}
use Rattle.design.proofs.PointLemmas.{rising_set, timely_set}
use Rattle.design.proofs.net.Net.with_point.Goals as goal

pub invariant_of-result : goal.invariant_of-result
invariant_of-result c =
    let old = c.self.invariant in
    let input : c.self.inside.is_input ≡ true = cc in
    record {
      named = old.named;
      rising = rw c.in_ok-stimulus.ensures (rising_set _ _ _ old.rising);
      timely = rw c.in_ok-stimulus.ensures (timely_set _ _ _ _ old.timely c.requires.moment);
      only_inputs = λ no. absurd (both_ways _ no input);
    }
