use Rattle.std.proofs.Common.{Some, ap, ◌∙◌}
use Rattle.catalog.specs.Catalog.{record_at}
use Rattle.design.specs.Keys.{netlist}
use Rattle.design.specs.Netlist.{NetEntry, with_net}
use Rattle.design.specs.kept.Shown.{design_of}
use Rattle.design.proofs.ChangeLemmas.{record_pushed}
use Rattle.design.proofs.DesignLemmas.{cleared_is_kept}
use Rattle.design.proofs.LookLemmas.{not_named}
use Rattle.design.proofs.NetLemmas.{kept_net_added, netlist_net_added}
use Rattle.design.proofs.design.Design.push_net.Goals as goal

pub push-requires : goal.push-requires
unfolding netlist
push-requires c =
    not_named (λ (n : NetEntry). n.name) c.self.inside.nets c.new-net.result.name
    (rw (ap (λ (n : NetEntry). n.name) c.new-net.ensures) (rw (← c.self.view_is) at c.requires.absent))

pub invariant_of-self : goal.invariant_of-self
invariant_of-self c =
    let a = c.self.inside in
    rw c.in-Ok.ensures.entries
    (kept_net_added (design_of a) a.points a.wires.fanout a.wires.drivers c.in-Ok.number c.new-net.result c.self.invariant c.lawful.ensures (ap (λ (n : NetEntry). n.points) c.new-net.ensures)
    (rw (ap (λ (n : NetEntry). n.name) c.new-net.ensures) (rw (← c.self.view_is) at c.requires.absent)) (rw (← c.self.view_is) at c.requires.room) c.in-Ok.ensures.fresh)

pub invariant_of-self-in-Err : goal.invariant_of-self-in-Err
unfolding netlist
invariant_of-self-in-Err c =
    let a = c.self.inside in
    rw (c.clear.ensures.nets, c.clear.ensures.gates, c.clear.ensures.points, c.clear.ensures.wires) (cleared_is_kept (design_of a) c.self.invariant.lawful.named c.self.invariant.lawful.horizon)

pub returns-in-Ok-clause-by_name : goal.returns-in-Ok-clause-by_name
returns-in-Ok-clause-by_name c =
    let a = c.self.inside in
    rw (← c.self.view_is)
    (ap (λ l. netlist (record (design_of a) { nets = l })) c.in-Ok.ensures.entries ∙ netlist_net_added (design_of a) a.points a.wires.fanout a.wires.drivers c.in-Ok.number c.new-net.result c.self.invariant c.in-Ok.ensures.fresh
    ∙ ap (λ n. with_net (netlist (design_of a)) n) c.new-net.ensures)

pub returns-in-Ok-clause-there : goal.returns-in-Ok-clause-there
returns-in-Ok-clause-there c =
    ap (λ l. record_at l c.in-Ok.number) c.in-Ok.ensures.entries ∙ record_pushed c.self.inside.nets c.in-Ok.number c.new-net.result c.in-Ok.ensures.fresh ∙ ap (λ n. Some n) c.new-net.ensures
