use Rattle.std.proofs.Common.{◌∙◌, ap, sym, refl, length, arith}
use Rattle.std.specs.Prelude.{nat_eq, ◌||◌, ◌&&◌}
use Rattle.std.proofs.lemmas.Grind.{common_steps}
use Rattle.std.proofs.lemmas.Option.{slice_get_read}
use Rattle.scratch.specs.kept.Kept.{is_at, places_at}
use Rattle.scratch.specs.kept.Places.{has}
use Rattle.scratch.proofs.Readers.{push_reader}
use Rattle.scratch.proofs.wiring.add_reader.Goals as goal

pub returns-in_ok-push-clause-readers : goal.returns-in_ok-push-clause-readers
returns-in_ok-push-clause-readers c = λ k m low.
    let all = c.args.all.now.items in
    let there = slice_get_read all (length all) c.in-At.net c.index_mut-places.result.now refl (let t = c.if-net-len.true in grind (arith, common_steps)) c.index_mut-places.ensures.value in
    push_reader all c.in-At.net c.args.place c.index_mut-places.result.now c.push.new.self there c.in_ok-push.ensures.ok k m
    ∙ ap (λ i. has k (places_at all m) || (nat_eq k c.args.place && is_at m i)) (sym c.in-At.is)
