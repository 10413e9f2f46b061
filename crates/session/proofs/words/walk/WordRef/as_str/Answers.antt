use Rattle.session.proofs.WordLemmas.{plain_is_text}
use Rattle.session.proofs.words.walk.WordRef.as_str.Goals as goal

pub unreachable-requires : goal.unreachable-requires
unreachable-requires c = c.in-Err.ensures.cases.0 (plain_is_text c.self.inside.bytes.now c.self.invariant)
