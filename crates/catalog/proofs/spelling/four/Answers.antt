use Rattle.catalog.specs.kept.Spellings.{four}
use Rattle.catalog.proofs.spelling.four.Goals as goal

pub returns : goal.returns
unfolding four
returns c = c.from_le_bytes.ensures
