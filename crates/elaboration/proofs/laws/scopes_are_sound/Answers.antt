use Rattle.elaboration.proofs.FlatLemmas.{scopes_sound}
use Rattle.elaboration.proofs.laws.scopes_are_sound.Goals as goal

pub returns : goal.returns
returns c = λ names modules top sound top_sound. scopes_sound c.parts_of_joined.ensures c.parts_are_names.ensures.whole names modules sound top top_sound
