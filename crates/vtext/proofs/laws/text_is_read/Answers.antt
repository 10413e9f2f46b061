use Rattle.vtext.proofs.TreeLemmas.{text_read}
use Rattle.vtext.proofs.laws.text_is_read.Goals as goal

pub returns : goal.returns
returns c = text_read
