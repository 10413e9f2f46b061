use Rattle.std.proofs.Common.{◌≡◌, ◌<◌, ◌+◌, ◌∙◌, ◌++◌, ◌∷◌, [], ap, sym, take, length, slice_get, slice_index_or, arith}
use Rattle.std.proofs.Math.ListN.{set}
use Rattle.std.proofs.lemmas.List.{length-map, length-set, take_all}
use Rattle.std.proofs.lemmas.Option.{slice_get-get_or}
use Rattle.gatestep.specs.Step.{due}
use Rattle.scratch.specs.kept.Kept.{currents_of}
use Rattle.scratch.specs.kept.Places.{has}
use Rattle.scratch.proofs.Between.{finish, set_apart, step}
use Rattle.scratch.proofs.Lists.{take_next}
use Rattle.scratch.proofs.Counting.{at, set_as, undue}
use Rattle.scratch.proofs.tallies.Tallies.follow.Goals as goal

pub loop-gate-preserved : goal.loop-gate-preserved
loop-gate-preserved c =
    let states = c.args.states.now in let t = c.args.t in let gates = c.args.gates.now in let i = c.loop-gate.gate-index in
    let part = c.loop-gate.invariant in let done = take i gates in let gate = slice_index_or gates i 0 in
    let was = c.args.self.now.counted.items in let new = currents_of states t in let now = c.loop-gate.self.counted.items in
    let more : take (i + 1) gates ≡ done ++ gate ∷ [] = take_next gates i gate (slice_get-get_or gates i 0 c.loop-gate-test.true) in
    let written : c.recount.new.self.counted.items ≡ set now gate (at new gate) = c.recount.ensures.counted ∙ ap (set now gate) c.current_at.ensures in
    let each : length now ≡ length new = part.each ∙ sym (length-map states (λ s. (due s t).current) ∙ c.requires.each) in
    record {
      nets = c.recount.ensures.nets;
      counted = rw (more, written)
          (step done (slice_get was) (slice_get new) (slice_get now) part.counted gate (slice_get (set now gate (at new gate))) (set_as now new gate each) (λ k e. set_apart now gate k (at new gate) e));
      each = ap length c.recount.ensures.counted ∙ length-set now gate c.current_at.result ∙ part.each;
      as_many = c.recount.ensures.as_many ∙ part.as_many;
    }

pub returns : goal.returns
returns c =
    let states = c.args.states.now in let t = c.args.t in let gates = c.args.gates.now in
    let all : take c.loop-gate.gate-index gates ≡ gates = take_all c.loop-gate.gate-index gates (let past = c.loop-gate-test.false in omega arith) in
    record {
      nets = c.loop-gate.invariant.nets;
      counted = λ some.
          let kept = c.loop-gate.invariant.as_many in
          let begun : 0 < length c.args.self.now.nets.items = omega arith in
          let was = c.requires.counts.counted begun in
          finish (take c.loop-gate.gate-index gates) c.args.self.now.counted.items (currents_of states t) c.loop-gate.self.counted.items c.loop-gate.invariant.counted
          (λ k off. ap (λ l. slice_get l k) was ∙ undue states k t (c.requires.others k (ap (has k) (sym all) ∙ off)));
    }
