use Rattle.std.proofs.Common.{◌≡◌, ◌≤◌, ◌+◌, ℕ, map, min, nat_eq, take}
use Rattle.std.specs.List.{sum_by}
use Rattle.std.specs.Map.{lookup}
use Rattle.std.specs.Option.{option_map_or}
use Rattle.vtext.specs.Modules.{InstanceEntry, ModuleEntry}
use Rattle.elaboration.specs.declared.counts.TheConstants.{MANY}
use Rattle.elaboration.specs.Levels.{instance_count}
use Rattle.elaboration.proofs.counts.total.Given as goal

abbrev pub invariant-loop-instance : goal.invariant-loop-instance
invariant-loop-instance l = record {
  most : l.total ≤ MANY;
  count : (levels : ℕ) → l.counts ≡ map (λ (m : ℕ × ModuleEntry). min MANY (instance_count l.modules.modules levels m.1)) l.modules.modules
      → l.total ≡ min MANY (sum_by (λ (i : InstanceEntry). 1 + option_map_or (instance_count l.modules.modules levels) (lookup (nat_eq i.«module») l.modules.modules) 0) (take l.instance-index l.instances));
}
