use Rattle.hubcore.proofs.ListSteps.{step_stands}
use Rattle.hubcore.proofs.laws.lists_go_on.Goals as goal

pub returns : goal.returns
returns c = step_stands
