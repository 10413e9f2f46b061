use Rattle.std.proofs.Common.{◌≡◌, Some, ap, length, arith, ◌∙◌}
use Rattle.catalog.specs.Catalog.{record_at}
use Rattle.catalog.specs.kept.Catalog.{with_record}
use Rattle.design.specs.Keys.{netlist}
use Rattle.design.specs.Netlist.{point_total}
use Rattle.design.specs.kept.Records.{HasRoom, IsNetChange, net_changed}
use Rattle.design.specs.kept.Shown.{design_of}
use Rattle.design.proofs.NetLemmas.{change_keeps_input, change_keeps_name, changed_count, kept_net_changed, netlist_net_put, points_counted_in}
use Rattle.design.proofs.design.Design.change_net.Goals as goal

pub overflow_sub-others : goal.overflow_sub-others
overflow_sub-others c =
    let a = c.self.inside in
    let there : record_at a.nets c.args.net ≡ Some c.net_of.result.now = rw (← c.self.view_is) at c.net_of.ensures in
    omega (arith, points_counted_in (design_of a) a.points a.wires.fanout a.wires.drivers c.args.net c.net_of.result.now c.self.invariant there, c.point_count.ensures)

pub overflow_add-result : goal.overflow_add-result
overflow_add-result c =
    let a = c.self.inside in
    let x = c.net_of.result.now in
    let key = c.net.inside.number in
    let there : record_at a.nets key ≡ Some x = rw (← c.self.view_is, ← c.net.view_is) at c.net_of.ensures in
    let count : c.in_ok-nets.count ≡ length (net_changed c.args.change x).points = rw there at c.in_ok-nets.ensures.count in
    let room : HasRoom c.args.change x (point_total (netlist (design_of a)).nets) = rw (← c.self.view_is, ← c.net.view_is, there) at c.requires.room in
    omega (arith, changed_count (design_of a) a.points a.wires.fanout a.wires.drivers key x c.args.change c.self.invariant there room, count, c.point_count.ensures)

pub invariant_of-result : goal.invariant_of-result
invariant_of-result c =
    let a = c.self.inside in
    let x = c.net_of.result.now in
    let key = c.net.inside.number in
    let there : record_at a.nets key ≡ Some x = rw (← c.self.view_is, ← c.net.view_is) at c.net_of.ensures in
    let made : c.in_ok-nets.nets ≡ with_record a.nets key (net_changed c.args.change x) = rw there at c.in_ok-nets.ensures.nets in
    let count : c.in_ok-nets.count ≡ length (net_changed c.args.change x).points = rw there at c.in_ok-nets.ensures.count in
    let allowed : IsNetChange c.args.change x = rw (← c.self.view_is, ← c.net.view_is, there) at c.requires.change in
    let room : HasRoom c.args.change x (point_total (netlist (design_of a)).nets) = rw (← c.self.view_is, ← c.net.view_is, there) at c.requires.room in
    rw (made, count, c.point_count.ensures) (kept_net_changed (design_of a) a.points a.wires.fanout a.wires.drivers key x c.args.change c.self.invariant there allowed room)

pub returns-clause-by_name : goal.returns-clause-by_name
returns-clause-by_name c =
    let a = c.self.inside in
    let x = c.net_of.result.now in
    let key = c.net.inside.number in
    let there : record_at a.nets key ≡ Some x = rw (← c.self.view_is, ← c.net.view_is) at c.net_of.ensures in
    let made : c.in_ok-nets.nets ≡ with_record a.nets key (net_changed c.args.change x) = rw there at c.in_ok-nets.ensures.nets in
    rw (← c.self.view_is, ← c.net.view_is, there)
    (ap (λ l. netlist (record (design_of a) { nets = l })) made
    ∙ netlist_net_put (design_of a) a.points a.wires.fanout a.wires.drivers key x (net_changed c.args.change) c.self.invariant there (change_keeps_name c.args.change x) (change_keeps_input c.args.change x))
