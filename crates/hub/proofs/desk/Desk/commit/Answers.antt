use Rattle.std.proofs.Common.{arith}
use Rattle.std.proofs.lemmas.Grind.{common_steps}
use Rattle.hub.proofs.Beginnings.{starts_on}
use Rattle.hub.proofs.desk.Desk.commit.Goals as goal

pub invariant_of-self-in-Ok-commit : goal.invariant_of-self-in-Ok-commit
invariant_of-self-in-Ok-commit g c = (
  record {
    present_is = grind (arith, common_steps);
    published = grind (arith, common_steps);
    first_is = grind (arith, common_steps);
    second_is = grind (arith, common_steps);
    all = grind (arith, common_steps);
  },
  c.self.invariant.1,
  grind (arith, common_steps),
  starts_on _ _ _ c.follow.ensures.grows c.self.invariant.3,
  c.self.invariant.4,
)
