use Rattle.catalog.specs.kept.Spellings.{packed}
use Rattle.catalog.proofs.spelling.packed.Goals as goal

pub returns : goal.returns
unfolding packed
returns c = rw (c.from.ensures, c.first_four.ensures, c.from-2.ensures, c.last_four.ensures)
