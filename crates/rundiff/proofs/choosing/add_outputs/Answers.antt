use Rattle.std.proofs.Common.{◌≡◌, ◌<◌, length, true}
use Rattle.design.specs.Keys.{netlist}
use Rattle.rundiff.specs.kept.Places.{gate_at, is_among, is_live}
use Rattle.rundiff.proofs.Alike.{live_grows}
use Rattle.rundiff.proofs.Steps.{at_index, each_next}
use Rattle.rundiff.proofs.choosing.add_outputs.Goals as goal

pub add_output-requires : goal.add_output-requires
add_output-requires c = record { there = at_index (λ q. q < length (netlist c.args.new.now).gates) c.args.gates.now c.loop-place.place-index c.loop-place-test.true c.requires.there }

pub loop-place-preserved : goal.loop-place-preserved
loop-place-preserved c =
    let d = netlist c.args.new.now in
    let now = is_among c.add_output.new.nets.items in
    let done = c.in_ok-add_output.ensures in
    record {
      there = λ all. done.there (c.loop-place.invariant.there all);
      more = λ p on. done.more p (c.loop-place.invariant.more p on);
      driven =
          each_next (λ q. is_live d now (gate_at d q).output ≡ true) c.args.gates.now c.loop-place.place-index c.loop-place-test.true
          (λ q was. live_grows d (is_among c.loop-place.nets.items) now done.more (gate_at d q).output (c.loop-place.invariant.driven q was)) done.driven;
    }
