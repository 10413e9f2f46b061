use Rattle.std.proofs.Common.{◌≡◌, ◌||◌, List, Some, nat_eq, sym, ap, ◌∙◌}
use Rattle.std.specs.List.{list_any, slice_get}
use Rattle.vtext.specs.Modules.{InstanceEntry}
use Rattle.elaboration.proofs.RingLemmas.{reached_inner}
use Rattle.elaboration.proofs.rings.add_inner_at.Goals as goal

pub returns-in_ok-add_modules : goal.returns-in_ok-add_modules
returns-in_ok-add_modules c = λ from between reached name there.
    let key : slice_get c.args.reached.now.keys c.args.place ≡ Some c.in-Some.name = sym (c.in-Some.ensures ∙ c.get_index.ensures.key) in
    reached_inner c.args.modules.now.modules from between c.args.reached.now.keys c.args.place c.in-Some.name name c.in-Some-find.entry.now key c.in-Some-find.ensures reached
    (sym (c.in_ok-add_modules.ensures.names name ∙ ap (λ (is : List InstanceEntry). list_any (nat_eq name) c.args.reached.now.keys || list_any (λ (i : InstanceEntry). nat_eq name i.«module») is) c.instances.ensures) ∙ there)
