use Rattle.std.proofs.Common.{◌≡◌, ◌+◌, ◌∙◌, subst, arith}
use Rattle.std.specs.Prelude.{◌-◌}
use Rattle.design.specs.Keys.{netlist}
use Rattle.scratch.specs.Run.{state_before}
use Rattle.scratch.specs.kept.Tallies.{Counts}
use Rattle.scratch.specs.Work.{is_stirred}
use Rattle.scratch.proofs.Passing.{as_many_values}
use Rattle.scratch.proofs.Counting.{settled_currents}
use Rattle.scratch.proofs.engine.Engine.settle.Goals as goal

pub settle-requires-clause-gates : goal.settle-requires-clause-gates
settle-requires-clause-gates g c = c.as_slice.ensures.value ∙ c.requires.stirred.in_order

pub settle-requires-clause-answers : goal.settle-requires-clause-answers
settle-requires-clause-answers g c = c.as_slice-2.ensures.value ∙ c.requires.answers

pub settle-requires-clause-beside : goal.settle-requires-clause-beside
settle-requires-clause-beside g c =
    let d = netlist c.args.design.now in let answer = g.S.Stepper.answer in
    as_many_values (λ gate. is_stirred answer d gate c.args.t) (state_before answer d (c.args.t + 1)) d.gates c.as_slice.result.now c.as_slice-2.result.now
    (settle-requires-clause-gates g c) (settle-requires-clause-answers g c)

pub settle-requires-clause-events : goal.settle-requires-clause-events
settle-requires-clause-events g c = rw c.as_slice.ensures.value c.requires.stirred.found.events

pub returns : goal.returns
returns g c =
    let d = netlist c.args.design.now in let answer = g.S.Stepper.answer in let t = c.args.t in
    let back : c.args.t + 1 - 1 ≡ c.args.t = omega arith in
    record {
      begun = omega arith;
      states = c.in_ok-settle.ensures.states;
      values = rw back c.requires.stirred.found.values;
      waves = c.requires.stirred.found.waves;
      traces = c.in_ok-settle.ensures.traces;
      events = c.in_ok-settle.ensures.events;
      points = c.requires.stirred.found.points;
      no_early_event = c.in_ok-settle.ensures.early;
      no_early_point = c.requires.stirred.found.no_early_point;
      counts =
          subst (Counts d c.args.self.now.tallies)
          (settled_currents answer d g.met.S.Stepper.answer_current t c.args.self.now.states.items c.settle.new.states.items c.requires.stirred.found.states c.in_ok-settle.ensures.states)
          c.requires.stirred.found.counts;
    }
