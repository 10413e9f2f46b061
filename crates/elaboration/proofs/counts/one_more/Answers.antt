use Rattle.std.proofs.Common.{◌+◌, ℕ, suc, min, nat_eq, List, ap, ◌∙◌, arith}
use Rattle.std.specs.List.{sum_by}
use Rattle.std.specs.Map.{lookup}
use Rattle.std.specs.Option.{option_map_or}
use Rattle.vtext.specs.Modules.{InstanceEntry, ModuleEntry}
use Rattle.elaboration.specs.declared.counts.TheConstants.{MANY}
use Rattle.elaboration.specs.Levels.{instance_count}
use Rattle.elaboration.proofs.PortLemmas.{blank}
use Rattle.elaboration.proofs.LoopLemmas.{map_end, map_next}
use Rattle.elaboration.proofs.counts.one_more.Goals as goal

pub loop-place-preserved : goal.loop-place-preserved
loop-place-preserved c = λ levels table.
    let modules = c.args.modules.now.modules in
    c.in_ok-push.ensures.items
    ∙ map_next (λ (m : ℕ × ModuleEntry). min MANY (instance_count modules (suc levels) m.1)) modules c.loop-place.place blank c.loop-place.more.items c.total.result
    (omega (arith, c.loop-place-test.true, c.count-place-end.ensures)) (c.loop-place.invariant levels table)
    (c.total.ensures levels table
    ∙ ap (λ (is : List InstanceEntry). min MANY (sum_by (λ (i : InstanceEntry). 1 + option_map_or (instance_count modules levels) (lookup (nat_eq i.«module») modules) 0) is)) (c.instances_at-instances.ensures blank))

pub returns : goal.returns
returns c = λ levels table.
    let modules = c.args.modules.now.modules in
    map_end (λ (m : ℕ × ModuleEntry). min MANY (instance_count modules (suc levels) m.1)) modules c.loop-place.place c.loop-place.more.items
    (omega (arith, c.loop-place-test.false, c.count-place-end.ensures)) (c.loop-place.invariant levels table)
