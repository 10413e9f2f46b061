use Rattle.std.proofs.Common.{◌≡◌, sym, ◌∙◌}
use Rattle.std.specs.Cmp.Lexicographic.{bytes_decides}
use Rattle.design.specs.Keys.{netlist}
use Rattle.design.specs.Names.{same_name}
use Rattle.differences.proofs.NameLemmas.{any_at, name_is, net_of_name}
use Rattle.differences.proofs.finding.is_at.Goals as goal

pub returns-clause-net : goal.returns-clause-net
returns-clause-net c = λ h.
    let nets = (netlist c.args.design.now).nets in
    let n = c.net_at.result.now in
    let is : n.name ≡ c.args.name.now = sym c.name.ensures ∙ sym c.as_str.ensures ∙ name_is c.as_str.result.now c.as_str-2.result.now (sym c.eq.ensures ∙ h) ∙ c.as_str-2.ensures in
    c.net_at.ensures ∙ sym (net_of_name nets c.args.place n c.args.name.now c.lawful.ensures.design.distinct_nets c.net_at.ensures is)

pub returns-clause-there : goal.returns-clause-there
returns-clause-there c = λ h.
    let nets = (netlist c.args.design.now).nets in
    let n = c.net_at.result.now in
    let is : n.name ≡ c.args.name.now = sym c.name.ensures ∙ sym c.as_str.ensures ∙ name_is c.as_str.result.now c.as_str-2.result.now (sym c.eq.ensures ∙ h) ∙ c.as_str-2.ensures in
    any_at (λ m. same_name m.name c.args.name.now) nets c.args.place n c.net_at.ensures ((bytes_decides n.name c.args.name.now).1 is)
