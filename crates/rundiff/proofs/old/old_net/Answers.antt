use Rattle.std.proofs.Common.{◌≡◌, ◌∙◌, ap, sym, ℕ, List, Option, Some, None, IfSome, IsSome, is_some}
use Rattle.design.specs.Keys.{Keyed, name_of, netlist}
use Rattle.design.specs.kept.Keys.{net_by_key}
use Rattle.design.specs.Names.{same_name}
use Rattle.design.specs.Netlist.{has_net, net_named, NetEntry}
use Rattle.design.proofs.LookLemmas.{any_found}
use Rattle.design.proofs.NameLemmas.{name_is}
use Rattle.rundiff.proofs.old.old_net.Goals as goal

-- a net that is found by its name is there
net_there : (d : Keyed) (name : List ℕ) (o : Option ℕ) → IfSome o (λ key. net_by_key d key ≡ net_named (netlist d) name) → is_some o ≡ has_net (netlist d) name → IfSome o (λ key. IsSome (net_by_key d key))
net_there d name None is there = tt
net_there d name (Some key) is there = ap (λ (o : Option NetEntry). is_some o) is ∙ sym (any_found (λ n. same_name n.name name) (netlist d).nets) ∙ sym there

pub returns-then-eq-clause-net : goal.returns-then-eq-clause-net
returns-then-eq-clause-net c =
    let old = c.args.old.now in
    let same : name_of old.nets c.args.guess ≡ c.args.name.now =
    sym (c.as_str.ensures ∙ c.name_of.ensures) ∙ name_is c.as_str.result.now c.args.name.now (sym c.eq.ensures ∙ c.if-eq.true) in
    sym (c.names_are_keys.ensures.nets c.args.guess) ∙ ap (net_named (netlist old)) same

pub returns-clause-there : goal.returns-clause-there
returns-clause-there c = net_there c.args.old.now c.args.name.now c.net.result c.net.ensures.net c.net.ensures.there
