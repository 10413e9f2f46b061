use Rattle.std.proofs.Common.{◌≡◌, ℕ, false, map, nat_eq, drop}
use Rattle.std.specs.List.{list_any}
use Rattle.std.specs.Map.{lookup}
use Rattle.std.specs.Option.{option_map_or}
use Rattle.vtext.specs.Modules.{InstanceEntry, ModuleEntry}
use Rattle.elaboration.specs.Levels.{is_deeper}
use Rattle.elaboration.proofs.levels.are_deep.Given as goal

abbrev pub invariant-loop-instance : goal.invariant-loop-instance
invariant-loop-instance l = (levels : ℕ) → l.deep ≡ map (λ (m : ℕ × ModuleEntry). is_deeper l.modules.modules levels m.1) l.modules.modules
    → list_any (λ (i : InstanceEntry). option_map_or (is_deeper l.modules.modules levels) (lookup (nat_eq i.«module») l.modules.modules) false) (drop l.instance-index l.instances)
    ≡ list_any (λ (i : InstanceEntry). option_map_or (is_deeper l.modules.modules levels) (lookup (nat_eq i.«module») l.modules.modules) false) l.instances
