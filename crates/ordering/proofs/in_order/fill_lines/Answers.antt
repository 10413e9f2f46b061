use Rattle.std.proofs.Common.{◌∙◌}
use Rattle.design.specs.Keys.{netlist}
use Rattle.scratch.proofs.Lists.{on_ok}
use Rattle.ordering.proofs.Supplied.{all_traced}
use Rattle.ordering.proofs.in_order.fill_lines.Goals as goal

pub find_rest-requires-clause-traced : goal.find_rest-requires-clause-traced
find_rest-requires-clause-traced g c =
    c.as_slice.ensures.value
    ∙ all_traced g.S.Stepper.answer (netlist c.args.design.now) c.follow_each.new.lines.traces.items c.args.order.now c.requires.order c.in_ok-follow_each.ensures.fit.traces
    c.in_ok-follow_each.ensures.traced

pub returns-clause-traces : goal.returns-clause-traces
returns-clause-traces g c =
    on_ok c.find_rest.result
    (all_traced g.S.Stepper.answer (netlist c.args.design.now) c.follow_each.new.lines.traces.items c.args.order.now c.requires.order c.in_ok-follow_each.ensures.fit.traces
    c.in_ok-follow_each.ensures.traced)
