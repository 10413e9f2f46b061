use Rattle.std.proofs.Common.{◌+◌, nat_eq, ◌∙◌, arith}
use Rattle.std.specs.Map.{lookup}
use Rattle.std.specs.Option.{option_map_or}
use Rattle.vtext.specs.Modules.{InstanceEntry}
use Rattle.elaboration.specs.declared.counts.TheConstants.{MANY}
use Rattle.elaboration.specs.Levels.{instance_count}
use Rattle.elaboration.proofs.CountLemmas.{count_end, count_next}
use Rattle.elaboration.proofs.counts.total.Goals as goal

pub loop-instance-preserved : goal.loop-instance-preserved
loop-instance-preserved c = record {
  most = omega (arith, c.min-total.ensures);
  count = λ levels table.
      let modules = c.args.modules.now.modules in
      c.min-total.ensures
      ∙ count_next MANY (λ (i : InstanceEntry). option_map_or (instance_count modules levels) (lookup (nat_eq i.«module») modules) 0) c.args.instances.now c.loop-instance.instance-index c.instance-item.result
      c.loop-instance.total c.count_below-below.result (omega (arith, c.loop-instance-test.true, c.loop-instance.auto.instance-index-end)) c.instance-item.is
      (c.loop-instance.invariant.count levels table) (c.count_below-below.ensures.count levels table);
}

pub returns : goal.returns
returns c = λ levels table.
    let modules = c.args.modules.now.modules in
    count_end MANY (λ (i : InstanceEntry). 1 + option_map_or (instance_count modules levels) (lookup (nat_eq i.«module») modules) 0) c.args.instances.now c.loop-instance.instance-index c.loop-instance.total
    (omega (arith, c.loop-instance-test.false, c.loop-instance.auto.instance-index-end)) (c.loop-instance.invariant.count levels table)
