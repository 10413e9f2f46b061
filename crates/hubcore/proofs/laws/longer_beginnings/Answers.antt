use Rattle.hubcore.proofs.Beginnings.{longer_has_both}
use Rattle.hubcore.proofs.laws.longer_beginnings.Goals as goal

pub returns-clause-both : goal.returns-clause-both
returns-clause-both c = longer_has_both
