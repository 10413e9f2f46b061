use Rattle.std.proofs.Common.{is_some, option_map, ap, sym, ◌∙◌}
use Rattle.design.specs.Keys.{KeyedGate, entry_in, netlist}
use Rattle.design.specs.kept.Shown.{design_of}
use Rattle.design.proofs.ByNameLemmas.{gate_named_is, has_gate_is}
use Rattle.design.proofs.LookLemmas.{has_named, none_named, record_named}
use Rattle.design.proofs.design.Design.gate.Goals as goal

pub returns-in-Some-clause-there : goal.returns-in-Some-clause-there
unfolding netlist
returns-in-Some-clause-there c = rw (← c.self.view_is) (ap (λ o. is_some o) c.in-Some.ensures.key ∙ has_named (λ (n : KeyedGate). n.name) c.self.inside.gates c.args.name.now ∙ sym (has_gate_is (design_of c.self.inside) c.args.name.now))

pub returns-in-Some-clause-gate : goal.returns-in-Some-clause-gate
unfolding netlist
returns-in-Some-clause-gate c = rw (← c.self.view_is) (ap (λ o. option_map (entry_in c.self.inside.nets) o) (c.in-Some.ensures.there ∙ sym (record_named (λ (n : KeyedGate). n.name) c.self.inside.gates c.args.name.now)) ∙ sym (gate_named_is (design_of c.self.inside) c.args.name.now))

pub returns-in-None-clause-there : goal.returns-in-None-clause-there
unfolding netlist
returns-in-None-clause-there c = rw (← c.self.view_is) (ap (λ o. is_some o) c.in-None.ensures.key ∙ has_named (λ (n : KeyedGate). n.name) c.self.inside.gates c.args.name.now ∙ sym (has_gate_is (design_of c.self.inside) c.args.name.now))

pub returns-in-None-clause-absent : goal.returns-in-None-clause-absent
unfolding netlist
returns-in-None-clause-absent c = rw (← c.self.view_is) (gate_named_is (design_of c.self.inside) c.args.name.now ∙ ap (λ o. option_map (entry_in c.self.inside.nets) o) (none_named (λ (n : KeyedGate). n.name) c.self.inside.gates c.args.name.now c.in-None.ensures.key))
