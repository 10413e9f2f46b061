use Rattle.std.proofs.Common.{ℕ, suc, nat_eq, false, ap, ◌∙◌, arith}
use Rattle.std.specs.List.{list_any}
use Rattle.std.specs.Map.{lookup}
use Rattle.std.specs.Option.{option_map_or}
use Rattle.std.specs.Prelude.{List}
use Rattle.vtext.specs.Modules.{InstanceEntry, ModuleEntry}
use Rattle.elaboration.specs.Levels.{is_deeper}
use Rattle.elaboration.proofs.PortLemmas.{blank}
use Rattle.elaboration.proofs.LoopLemmas.{map_end, map_next}
use Rattle.elaboration.proofs.levels.one_more.Goals as goal

pub loop-place-preserved : goal.loop-place-preserved
loop-place-preserved c = λ levels table.
    let modules = c.args.modules.now.modules in
    c.in_ok-push.ensures.items
    ∙ map_next (λ (m : ℕ × ModuleEntry). is_deeper modules (suc levels) m.1) modules c.loop-place.place blank c.loop-place.more.items c.are_deep.result
    (omega (arith, c.loop-place-test.true, c.count-place-end.ensures)) (c.loop-place.invariant levels table)
    (c.are_deep.ensures levels table
    ∙ ap (λ (is : List InstanceEntry). list_any (λ (i : InstanceEntry). option_map_or (is_deeper modules levels) (lookup (nat_eq i.«module») modules) false) is) (c.instances_at-instances.ensures blank))

pub returns : goal.returns
returns c = λ levels table.
    let modules = c.args.modules.now.modules in
    map_end (λ (m : ℕ × ModuleEntry). is_deeper modules (suc levels) m.1) modules c.loop-place.place c.loop-place.more.items
    (omega (arith, c.loop-place-test.false, c.count-place-end.ensures)) (c.loop-place.invariant levels table)
