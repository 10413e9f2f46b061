use Rattle.elaboration.proofs.FlatLemmas.{gates_differ, nets_differ}
use Rattle.elaboration.proofs.laws.flat_names.Goals as goal

pub returns-clause-nets : goal.returns-clause-nets
returns-clause-nets c = λ names modules top sound top_sound. nets_differ c.parts_of_joined.ensures c.parts_are_names.ensures.whole names modules sound (c.bit_names_are_bits.ensures.there names) top top_sound

pub returns-clause-gates : goal.returns-clause-gates
returns-clause-gates c = λ names modules top sound top_sound. gates_differ c.parts_of_joined.ensures c.parts_are_names.ensures.whole names modules sound top top_sound
