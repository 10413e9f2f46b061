use Rattle.std.proofs.Common.{is_some, ap, sym, ◌∙◌}
use Rattle.std.proofs.lemmas.Option.{IfSome_then}
use Rattle.design.specs.Keys.{netlist}
use Rattle.design.specs.Netlist.{NetEntry}
use Rattle.design.specs.Names.{same_name}
use Rattle.design.specs.kept.Shown.{design_of}
use Rattle.design.proofs.EntryLemmas.{keys_apart}
use Rattle.design.proofs.LookLemmas.{has_named, if_none, none_named, none_position, place_named, position_is_some, position_missing, record_named}
use Rattle.design.proofs.DesignLemmas.{net_count_is}
use Rattle.design.proofs.design.Design.net_place.Goals as goal

pub returns-in-Some-clause-place : goal.returns-in-Some-clause-place
unfolding netlist
returns-in-Some-clause-place c = rw (← c.self.view_is) (c.place.ensures.place ∙ place_named (λ (n : NetEntry). n.name) c.self.inside.nets c.args.name.now c.in-Some.key (keys_apart c.self.inside.nets c.self.invariant.keys.distinct_nets) c.in-Some.ensures.key)

pub returns-in-Some-clause-there : goal.returns-in-Some-clause-there
unfolding netlist
returns-in-Some-clause-there c =
    let at = c.place.ensures.place ∙ place_named (λ (n : NetEntry). n.name) c.self.inside.nets c.args.name.now c.in-Some.key (keys_apart c.self.inside.nets c.self.invariant.keys.distinct_nets) c.in-Some.ensures.key in
    rw (← c.self.view_is) (ap (λ o. is_some o) at ∙ position_is_some (λ (n : NetEntry). same_name n.name c.args.name.now) 0 _)

pub returns-in-Some-clause-net : goal.returns-in-Some-clause-net
unfolding netlist
returns-in-Some-clause-net c =
    rw (← c.self.view_is) (IfSome_then c.place.result c.place.ensures.there (λ place at. at ∙ c.in-Some.ensures.there ∙ sym (record_named (λ (n : NetEntry). n.name) c.self.inside.nets c.args.name.now)))

pub returns-in-Some-clause-absent : goal.returns-in-Some-clause-absent
unfolding netlist
returns-in-Some-clause-absent c =
    let at = c.place.ensures.place ∙ place_named (λ (n : NetEntry). n.name) c.self.inside.nets c.args.name.now c.in-Some.key (keys_apart c.self.inside.nets c.self.invariant.keys.distinct_nets) c.in-Some.ensures.key in
    rw (← c.self.view_is) (if_none c.place.result _ (λ none. position_missing (λ (n : NetEntry). same_name n.name c.args.name.now) 0 _ (sym at ∙ none)))

pub returns-in-None-clause-place : goal.returns-in-None-clause-place
unfolding netlist
returns-in-None-clause-place c = rw (← c.self.view_is) (sym (none_position (λ (n : NetEntry). same_name n.name c.args.name.now) 0 _ (none_named (λ (n : NetEntry). n.name) c.self.inside.nets c.args.name.now c.in-None.ensures.key)))

pub returns-in-None-clause-there : goal.returns-in-None-clause-there
unfolding netlist
returns-in-None-clause-there c = rw (← c.self.view_is) (ap (λ o. is_some o) c.in-None.ensures.key ∙ has_named (λ (n : NetEntry). n.name) c.self.inside.nets c.args.name.now)

pub returns-in-None-clause-absent : goal.returns-in-None-clause-absent
unfolding netlist
returns-in-None-clause-absent c = rw (← c.self.view_is) (none_named (λ (n : NetEntry). n.name) c.self.inside.nets c.args.name.now c.in-None.ensures.key)

pub returns-in-Some-clause-within : goal.returns-in-Some-clause-within
returns-in-Some-clause-within c = rw (← c.self.view_is, net_count_is (design_of c.self.inside)) c.place.ensures.within
