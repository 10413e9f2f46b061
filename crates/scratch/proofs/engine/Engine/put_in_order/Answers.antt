use Rattle.std.proofs.Common.{◌∙◌, ap, sym, Bool}
use Rattle.std.specs.Prelude.{not, ◌&&◌}
use Rattle.design.specs.Keys.{netlist}
use Rattle.scratch.specs.kept.Places.{pends_at}
use Rattle.scratch.specs.Work.{is_stirred}
use Rattle.scratch.proofs.Passing.{are_passing, has_place}
use Rattle.scratch.proofs.engine.Engine.put_in_order.Goals as goal

pub returns : goal.returns
returns g c =
    let d = netlist c.args.design.now in let answer = g.S.Stepper.answer in let t = c.args.t in let found = c.requires in
    record {
      found =
          record {
            begun = found.begun;
            states = found.states;
            ready = found.ready;
            values = found.values;
            waves = found.waves;
            traces = found.traces;
            gates = λ k. c.put_in_order.ensures.all k ∙ found.gates k;
            events = λ k u from h. found.events k u from (ap (λ (b : Bool). not b && pends_at c.args.self.now.states.items k u) (sym (c.put_in_order.ensures.all k)) ∙ h);
            points = found.points;
            no_early_event = found.no_early_event;
            no_early_point = found.no_early_point;
            counts = found.counts;
          };
      in_order =
          are_passing (λ gate. is_stirred answer d gate t) c.put_in_order.new.self d.gates c.put_in_order.ensures.rising
          (λ k. c.put_in_order.ensures.all k ∙ found.gates k ∙ has_place (λ gate. is_stirred answer d gate t) d.gates k);
    }
