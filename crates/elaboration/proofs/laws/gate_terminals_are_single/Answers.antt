use Rattle.elaboration.proofs.SingleLemmas.{gates_single}
use Rattle.elaboration.proofs.laws.gate_terminals_are_single.Goals as goal

pub returns : goal.returns
returns c = λ text names modules top sound none found. gates_single text names modules sound none top found
