use Rattle.std.proofs.Common.{is_some, ap, ◌∙◌}
use Rattle.design.specs.Keys.{netlist}
use Rattle.design.specs.Netlist.{NetEntry}
use Rattle.design.proofs.LookLemmas.{has_named}
use Rattle.design.proofs.design.Design.has_net.Goals as goal

pub returns : goal.returns
unfolding netlist
returns c = rw (← c.self.view_is) (c.is_some.ensures ∙ ap (λ o. is_some o) c.key.ensures.key ∙ has_named (λ (n : NetEntry). n.name) c.self.inside.nets c.args.name.now)
