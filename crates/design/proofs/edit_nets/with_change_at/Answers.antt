use Rattle.std.proofs.Common.{is_some, ap, length, ◌∙◌}
use Rattle.catalog.specs.Catalog.{record_at}
use Rattle.catalog.specs.kept.Catalog.{with_record}
use Rattle.design.specs.Netlist.{NetEntry}
use Rattle.design.specs.kept.Records.{IsNetChange}
use Rattle.design.proofs.ChangeLemmas.{record_kept, replaced_twice}
use Rattle.design.proofs.LookLemmas.{some_of}
use Rattle.design.proofs.NetLemmas.{change_keeps_name}
use Rattle.design.proofs.edit_nets.with_change_at.Goals as goal

pub take-requires : goal.take-requires
take-requires c = ap (λ o. is_some o) (some_of (record_at c.args.nets c.args.key) (λ (n : NetEntry). IsNetChange c.args.change n) c.requires).1

pub changed-requires : goal.changed-requires
changed-requires c = rw c.in_ok-nets.ensures.0 at c.requires

pub replace-requires-clause-there : goal.replace-requires-clause-there
replace-requires-clause-there c = rw (c.in_ok-nets.ensures.1) (ap (λ o. is_some o) (record_kept c.args.nets c.args.key c.in_ok-nets.old _ c.in_ok-nets.ensures.0))

pub replace-requires-clause-name : goal.replace-requires-clause-name
replace-requires-clause-name c =
    rw (c.in_ok-nets.ensures.1, record_kept c.args.nets c.args.key c.in_ok-nets.old _ c.in_ok-nets.ensures.0) (ap (λ (n : NetEntry). n.name) c.in_ok-new.ensures ∙ change_keeps_name c.args.change c.in_ok-nets.old)

pub returns-clause-nets : goal.returns-clause-nets
returns-clause-nets c =
    let nets = c.args.nets in
    let key = c.args.key in
    rw c.in_ok-nets.ensures.0
    (c.in_ok-nets-2.ensures ∙ ap (λ l. with_record l key c.in_ok-new.new) c.in_ok-nets.ensures.1 ∙ replaced_twice nets key _ c.in_ok-new.new ∙ ap (λ n. with_record nets key n) c.in_ok-new.ensures)

pub returns-clause-count : goal.returns-clause-count
returns-clause-count c = rw c.in_ok-nets.ensures.0 (c.point_count-count.ensures ∙ ap (λ (n : NetEntry). length n.points) c.in_ok-new.ensures)
