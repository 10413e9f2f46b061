use Rattle.elaboration.proofs.NetNames.{net_name_parts}
use Rattle.elaboration.proofs.laws.flat_names_are_parts.Goals as goal

pub returns : goal.returns
returns c = net_name_parts
