use Rattle.vtext.proofs.BeginLemmas.{no_parts}
use Rattle.vtext.proofs.laws.no_parts_begin_so.Goals as goal

pub returns : goal.returns
returns c = no_parts
