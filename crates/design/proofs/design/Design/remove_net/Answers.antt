use Rattle.std.proofs.Common.{◌≡◌, ◌+◌, ◌-◌, Some, is_some, length, false, ap, ◌∙◌, arith}
use Rattle.catalog.specs.Catalog.{record_at}
use Rattle.design.specs.Keys.{netlist}
use Rattle.design.specs.Netlist.{NetEntry, is_used}
use Rattle.design.specs.kept.Shown.{design_of}
use Rattle.design.proofs.ChangeLemmas.{sum_without}
use Rattle.design.proofs.DesignLemmas.{net_keys_apart}
use Rattle.design.proofs.NetLemmas.{kept_net_removed, netlist_net_removed}
use Rattle.design.proofs.design.Design.remove_net.Goals as goal

pub overflow_sub-points : goal.overflow_sub-points
overflow_sub-points c =
    let a = c.self.inside in
    let x = c.net_of.result.now in
    let there : record_at a.nets c.args.net ≡ Some x = rw (← c.self.view_is) at c.net_of.ensures in
    omega (arith, sum_without (λ (n : NetEntry). length n.points) a.nets c.args.net x (net_keys_apart (design_of a) a.points a.wires.fanout a.wires.drivers c.self.invariant) there, c.self.invariant.points_counted, c.point_count.ensures)

pub remove-requires : goal.remove-requires
remove-requires c =
    let a = c.self.inside in
    let there : record_at a.nets c.net.inside.number ≡ Some c.net_of.result.now = rw (← c.self.view_is, ← c.net.view_is) at c.net_of.ensures in
    ap (λ o. is_some o) there

pub invariant_of-result : goal.invariant_of-result
invariant_of-result c =
    let a = c.self.inside in
    let x = c.net_of.result.now in
    let key = c.net.inside.number in
    let there : record_at a.nets key ≡ Some x = rw (← c.self.view_is, ← c.net.view_is) at c.net_of.ensures in
    let unused : is_used (netlist (design_of a)) x.name ≡ false = rw (← c.self.view_is) at (rw c.net_of.ensures at c.requires.unused) in
    let within : length x.points + (a.points - c.point_count.result) ≡ a.points =
    omega (arith, sum_without (λ (n : NetEntry). length n.points) a.nets key x (net_keys_apart (design_of a) a.points a.wires.fanout a.wires.drivers c.self.invariant) there, c.self.invariant.points_counted, c.point_count.ensures) in
    rw c.in_ok-nets.ensures (kept_net_removed (design_of a) a.points (a.points - c.point_count.result) a.wires.fanout a.wires.drivers key x c.self.invariant there unused (omega (arith, within)))

pub returns-clause-by_key : goal.returns-clause-by_key
returns-clause-by_key c = rw (← c.self.view_is, ← c.net.view_is) (ap (λ l. record (design_of c.self.inside) { nets = l }) c.in_ok-nets.ensures)

pub returns-clause-by_name : goal.returns-clause-by_name
returns-clause-by_name c =
    let a = c.self.inside in
    let x = c.net_of.result.now in
    let key = c.net.inside.number in
    let there : record_at a.nets key ≡ Some x = rw (← c.self.view_is, ← c.net.view_is) at c.net_of.ensures in
    let unused : is_used (netlist (design_of a)) x.name ≡ false = rw (← c.self.view_is) at (rw c.net_of.ensures at c.requires.unused) in
    rw (← c.self.view_is, ← c.net.view_is, there)
    (ap (λ l. netlist (record (design_of a) { nets = l })) c.in_ok-nets.ensures ∙ netlist_net_removed (design_of a) a.points a.wires.fanout a.wires.drivers key x c.self.invariant there unused)
