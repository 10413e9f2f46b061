use Rattle.std.proofs.Common.{◌≡◌, ◌<◌, ◌∙◌, ap, sym, length, slice_get, arith, ⊎_elim}
use Rattle.std.proofs.lemmas.Bool.{cases_lt}
use Rattle.design.specs.Keys.{netlist}
use Rattle.design.specs.kept.Places.{driver_places}
use Rattle.gateline.proofs.Lists.{some_at}
use Rattle.gateline.proofs.Marks.{all_waves, traced_all}
use Rattle.gateline.proofs.filling.find_rest.Goals as goal
use Rattle.gateline.specs.kept.Known.{AreTraced}
use Rattle.scratch.proofs.Lists.{if_there}

pub loop-place-preserved : goal.loop-place-preserved
loop-place-preserved g c =
    record {
      found = c.in_ok-find_net.ensures.found;
      marked = λ m below.
          ⊎_elim
          (λ low. c.in_ok-find_net.ensures.kept m (c.loop-place.invariant.marked m low))
          (λ past. let here : c.loop-place.place ≡ m = omega arith in ap (slice_get c.find_net.new.found) (sym here) ∙ c.in_ok-find_net.ensures.here)
          (cases_lt m c.loop-place.place);
    }

pub returns : goal.returns
returns g c =
    all_waves g.S.Stepper.answer (netlist c.args.design.now) c.loop-place.found c.loop-place.waves c.loop-place.invariant.found
    (c.loop-place.auto.found ∙ c.requires.marks) (c.loop-place.auto.waves ∙ c.requires.lines)
    (λ m low. c.loop-place.invariant.marked m (let past = c.loop-place-test.false in let end = c.net_count-place-end.ensures in omega arith))

pub find_net-requires-clause-traced : goal.find_net-requires-clause-traced
find_net-requires-clause-traced g c =
    let answer = g.S.Stepper.answer in let d = netlist c.args.design.now in let place = c.loop-place.place in
    let low : place < length d.nets = (let below = c.loop-place-test.true in let end = c.net_count-place-end.ensures in omega arith) in
    let it = some_at d.nets place low in
    if_there (slice_get d.nets place) it.0 (λ n. AreTraced answer d c.args.traces.now (driver_places d.gates n.name)) it.1
    (traced_all answer d c.args.traces.now c.requires.traced (driver_places d.gates it.0.name))
