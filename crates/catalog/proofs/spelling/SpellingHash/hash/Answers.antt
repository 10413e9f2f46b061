use Rattle.std.proofs.Common.{sym, ◌∙◌}
use Rattle.catalog.specs.kept.Spellings.{input_of}
use Rattle.catalog.proofs.spelling.SpellingHash.hash.Goals as goal

pub returns-then-is_short : goal.returns-then-is_short
unfolding input_of
returns-then-is_short g c = rw (sym c.is_short.ensures ∙ c.if-is_short.true, ← c.packed.ensures) c.write_u64.ensures

pub returns-else-is_short : goal.returns-else-is_short
unfolding input_of
returns-else-is_short g c = rw (sym c.is_short.ensures ∙ c.if-is_short.false) c.write.ensures
