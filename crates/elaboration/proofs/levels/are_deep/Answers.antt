use Rattle.std.proofs.Common.{false, nat_eq, sym, ◌∙◌, arith}
use Rattle.std.specs.Map.{lookup}
use Rattle.std.specs.Option.{option_map_or}
use Rattle.vtext.specs.Modules.{InstanceEntry}
use Rattle.elaboration.specs.Levels.{is_deeper}
use Rattle.elaboration.proofs.LoopLemmas.{any_end, any_here, any_past}
use Rattle.elaboration.proofs.levels.are_deep.Goals as goal

pub returns-then-is_deep : goal.returns-then-is_deep
returns-then-is_deep c = λ levels table.
    let modules = c.args.modules.now.modules in
    any_here (λ (i : InstanceEntry). option_map_or (is_deeper modules levels) (lookup (nat_eq i.«module») modules) false) c.args.instances.now c.loop-instance.instance-index c.instance-item.result c.instance-item.is
    (omega (arith, c.loop-instance-test.true, c.loop-instance.auto.instance-index-end)) (sym (c.is_deep.ensures levels table) ∙ c.if-is_deep.true)
    ∙ c.loop-instance.invariant levels table

pub loop-instance-preserved : goal.loop-instance-preserved
loop-instance-preserved c = λ levels table.
    let modules = c.args.modules.now.modules in
    any_past (λ (i : InstanceEntry). option_map_or (is_deeper modules levels) (lookup (nat_eq i.«module») modules) false) c.args.instances.now c.loop-instance.instance-index c.instance-item.result c.instance-item.is
    (omega (arith, c.loop-instance-test.true, c.loop-instance.auto.instance-index-end)) (sym (c.is_deep.ensures levels table) ∙ c.if-is_deep.false)
    ∙ c.loop-instance.invariant levels table

pub returns : goal.returns
returns c = λ levels table.
    let modules = c.args.modules.now.modules in
    any_end (λ (i : InstanceEntry). option_map_or (is_deeper modules levels) (lookup (nat_eq i.«module») modules) false) c.args.instances.now c.loop-instance.instance-index
    (omega (arith, c.loop-instance-test.false, c.loop-instance.auto.instance-index-end))
    ∙ c.loop-instance.invariant levels table
