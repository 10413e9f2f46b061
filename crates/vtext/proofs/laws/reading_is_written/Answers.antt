use Rattle.vtext.proofs.SpelledLemmas.{written}
use Rattle.vtext.proofs.laws.reading_is_written.Goals as goal

pub returns : goal.returns
returns c = written
