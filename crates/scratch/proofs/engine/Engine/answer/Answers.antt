use Rattle.std.proofs.Common.{◌≡◌, ◌+◌, subst, arith}
use Rattle.std.specs.Prelude.{◌-◌}
use Rattle.design.specs.Keys.{netlist}
use Rattle.scratch.specs.kept.Tallies.{Counts}
use Rattle.scratch.proofs.Counting.{settled_currents}
use Rattle.scratch.proofs.engine.Engine.answer.Goals as goal

pub returns-clause-stands : goal.returns-clause-stands
returns-clause-stands g c =
    let d = netlist c.args.design.now in let answer = g.S.Stepper.answer in let t = c.args.t in let found = c.requires.found in
    let back : c.args.t + 1 - 1 ≡ c.args.t = omega arith in
    record {
      begun = omega arith;
      states = c.in_ok-answer_each.ensures.states;
      values = rw back found.values;
      waves = found.waves;
      traces = c.in_ok-answer_each.ensures.traces;
      events = c.in_ok-answer_each.ensures.events;
      points = found.points;
      no_early_event = c.in_ok-answer_each.ensures.early;
      no_early_point = found.no_early_point;
      counts =
          subst (Counts d c.args.self.now.tallies)
          (settled_currents answer d g.met.S.Stepper.answer_current t c.args.self.now.states.items c.answer_each.new.states.items found.states c.in_ok-answer_each.ensures.states)
          found.counts;
    }
