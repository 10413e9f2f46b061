use Rattle.std.proofs.Common.{arith}
use Rattle.std.proofs.lemmas.Grind.{common_steps}
use Rattle.causes.proofs.GateLemmas.{places_by_name}
use Rattle.causes.proofs.InputLemmas.{next_input}
use Rattle.causes.proofs.turn.changed_inputs.Goals as goal

pub loop-place-preserved : goal.loop-place-preserved
loop-place-preserved g c =
    let more = next_input c.args.design.now c.args.t c.args.inputs.now c.loop-place.place c.index-inputs-place.result
    (places_by_name c.args.design.now c.places_are_keys.ensures.nets) c.names_are_keys.ensures.nets c.requires.there (omega (arith, c.loop-place-test.true)) c.index-inputs-place.is in
    rw more (grind (arith, common_steps))
