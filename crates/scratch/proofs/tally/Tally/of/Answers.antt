use Rattle.std.proofs.Common.{◌<◌, ◌^◌, ap, length, slice_index_or, arith}
use Rattle.std.proofs.lemmas.Option.{slice_get-get_or}
use Rattle.fourstate.specs.declared.value.Value.TheVariants.{One, Unknown, Zero}
use Rattle.scratch.specs.declared.tally.Tally.{Tally}
use Rattle.scratch.proofs.Counting.{added, room}
use Rattle.scratch.proofs.tally.Tally.of.Goals as goal

pub add-requires-clause-zeros : goal.add-requires-clause-zeros
add-requires-clause-zeros c =
    let places = c.args.places.now in let i = c.loop-place.place-index in let fits : length places < 2 ^ 64 = omega arith in
    rw (c.value_at.ensures, ap (λ (t : Tally). t.zeros) c.loop-place.invariant) (room Zero c.args.values.now places i (slice_index_or places i 0) (slice_get-get_or places i 0 c.loop-place-test.true) fits)

pub add-requires-clause-ones : goal.add-requires-clause-ones
add-requires-clause-ones c =
    let places = c.args.places.now in let i = c.loop-place.place-index in let fits : length places < 2 ^ 64 = omega arith in
    rw (c.value_at.ensures, ap (λ (t : Tally). t.ones) c.loop-place.invariant) (room One c.args.values.now places i (slice_index_or places i 0) (slice_get-get_or places i 0 c.loop-place-test.true) fits)

pub add-requires-clause-unknowns : goal.add-requires-clause-unknowns
add-requires-clause-unknowns c =
    let places = c.args.places.now in let i = c.loop-place.place-index in let fits : length places < 2 ^ 64 = omega arith in
    rw (c.value_at.ensures, ap (λ (t : Tally). t.unknowns) c.loop-place.invariant) (room Unknown c.args.values.now places i (slice_index_or places i 0) (slice_get-get_or places i 0 c.loop-place-test.true) fits)

pub loop-place-preserved : goal.loop-place-preserved
loop-place-preserved c =
    let places = c.args.places.now in let i = c.loop-place.place-index in
    added c.args.values.now places i (slice_index_or places i 0) (slice_get-get_or places i 0 c.loop-place-test.true) c.loop-place.tally c.add.new.self c.value_at.result c.value_at.ensures c.loop-place.invariant
    c.add.ensures.zeros c.add.ensures.ones c.add.ensures.unknowns
