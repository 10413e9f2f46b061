use Rattle.std.proofs.lemmas.Option.{slice_get-get_or}
use Rattle.scratch.specs.kept.Kept.{places_at}
use Rattle.scratch.specs.kept.Places.{has}
use Rattle.scratch.proofs.Among.{bits_more}
use Rattle.scratch.proofs.stirring.insert_all_readers.Goals as goal

pub loop-net-preserved : goal.loop-net-preserved
loop-net-preserved c = λ k.
    bits_more k (places_at c.args.wiring.now.readers.items) c.args.nets.now c.loop-net.net-index _ (has k c.args.gates.now) (has k c.loop-net.gates) (has k c.insert_readers_of.new.gates)
    (slice_get-get_or c.args.nets.now c.loop-net.net-index 0 c.loop-net-test.true) (c.in_ok-insert_readers_of.ensures k) (c.loop-net.invariant k)
