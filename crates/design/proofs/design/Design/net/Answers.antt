use Rattle.std.proofs.Common.{is_some, ap, sym, ◌∙◌}
use Rattle.design.specs.Keys.{netlist}
use Rattle.design.specs.Netlist.{NetEntry}
use Rattle.design.proofs.LookLemmas.{has_named, name_found, none_named, record_named}
use Rattle.design.proofs.design.Design.net.Goals as goal

pub returns-in-Some-clause-there : goal.returns-in-Some-clause-there
unfolding netlist
returns-in-Some-clause-there c = rw (← c.self.view_is) (ap (λ o. is_some o) c.in-Some.ensures.key ∙ has_named (λ (n : NetEntry). n.name) c.self.inside.nets c.args.name.now)

pub returns-in-Some-clause-net : goal.returns-in-Some-clause-net
unfolding netlist
returns-in-Some-clause-net c = rw (← c.self.view_is) (c.in-Some.ensures.there ∙ sym (record_named (λ (n : NetEntry). n.name) c.self.inside.nets c.args.name.now))

pub returns-in-Some-clause-name : goal.returns-in-Some-clause-name
returns-in-Some-clause-name c = rw (← c.self.view_is) (name_found c.self.inside.nets c.args.name.now c.in-Some.number c.in-Some.ensures.key c.in-Some.ensures.there)

pub returns-in-None-clause-there : goal.returns-in-None-clause-there
unfolding netlist
returns-in-None-clause-there c = rw (← c.self.view_is) (ap (λ o. is_some o) c.in-None.ensures.key ∙ has_named (λ (n : NetEntry). n.name) c.self.inside.nets c.args.name.now)

pub returns-in-None-clause-absent : goal.returns-in-None-clause-absent
unfolding netlist
returns-in-None-clause-absent c = rw (← c.self.view_is) (none_named (λ (n : NetEntry). n.name) c.self.inside.nets c.args.name.now c.in-None.ensures.key)
