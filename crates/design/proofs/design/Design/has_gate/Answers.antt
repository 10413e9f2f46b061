use Rattle.std.proofs.Common.{is_some, sym, ap, ◌∙◌}
use Rattle.design.specs.Keys.{KeyedGate, netlist}
use Rattle.design.specs.kept.Shown.{design_of}
use Rattle.design.proofs.ByNameLemmas.{has_gate_is}
use Rattle.design.proofs.LookLemmas.{has_named}
use Rattle.design.proofs.design.Design.has_gate.Goals as goal

pub returns : goal.returns
unfolding netlist
returns c = rw (← c.self.view_is) (c.is_some.ensures ∙ ap (λ o. is_some o) c.key.ensures.key ∙ has_named (λ (n : KeyedGate). n.name) c.self.inside.gates c.args.name.now ∙ sym (has_gate_is (design_of c.self.inside) c.args.name.now))
