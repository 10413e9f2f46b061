use Rattle.vtext.proofs.BitNames.{bit_there, only_bits}
use Rattle.vtext.proofs.laws.bit_names_are_bits.Goals as goal

pub returns-clause-there : goal.returns-clause-there
returns-clause-there c = λ names n vector index base named low. bit_there names n base vector index named low

pub returns-clause-only : goal.returns-clause-only
returns-clause-only c = λ names n bytes bit e.
    let is = only_bits names n bytes bit e in (is.name, is.index, (is.base, is.vector, is.bytes))
