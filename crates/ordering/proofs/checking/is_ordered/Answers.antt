use Rattle.std.proofs.Common.{◌≡◌, ◌∙◌, length}
use Rattle.design.specs.Keys.{netlist}
use Rattle.ordering.proofs.Marks.{order_is}
use Rattle.ordering.proofs.checking.is_ordered.Goals as goal

pub returns : goal.returns
returns c =
    let many : length c.as_mut_slice.result.now ≡ length (netlist c.args.design.now).gates = c.as_mut_slice.ensures.len ∙ c.in_ok-marks.ensures.len ∙ c.gate_count.ensures in
    c.mark_all.ensures ∙ order_is (netlist c.args.design.now) c.args.wiring.now c.requires c.args.order.now (length c.as_mut_slice.result.now) many
