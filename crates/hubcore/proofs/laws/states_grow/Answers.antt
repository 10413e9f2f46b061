use Rattle.hubcore.proofs.Growing.{after_follows}
use Rattle.hubcore.proofs.laws.states_grow.Goals as goal

pub returns : goal.returns
returns c = after_follows
