use Rattle.vtext.proofs.NumberLemmas.{name_there, numbered, one_name}
use Rattle.vtext.proofs.laws.names_are_numbers.Goals as goal

pub returns-clause-bytes : goal.returns-clause-bytes
returns-clause-bytes c = numbered

pub returns-clause-same : goal.returns-clause-same
returns-clause-same c = one_name

pub returns-clause-there : goal.returns-clause-there
returns-clause-there c = name_there
