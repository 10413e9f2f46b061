-- How many levels of modules a design has, and how many instances (own).
use Rattle.std.specs.Prelude.{Bool, true, false, ℕ, zero, suc, nat_eq, ◌+◌, ◌||◌, nat_lt, List}
use Rattle.std.specs.List.{list_any, sum_by}
use Rattle.std.specs.Map.{lookup}
use Rattle.std.specs.Option.{option_map_or}
use Rattle.vtext.specs.Modules.{ModuleEntry}
use Rattle.elaboration.specs.declared.limits.TheConstants.{MAX_DEPTH, MAX_INSTANCES}

module _ (modules : List (ℕ × ModuleEntry)) where
  -- a module has more than so many levels, its own being one
  abbrev pub is_deeper : ℕ → ModuleEntry → Bool
  is_deeper zero m = true
  is_deeper (suc levels) m = list_any (λ i. option_map_or (is_deeper levels) (lookup (nat_eq i.«module») modules) false) m.instances

  -- how many instances are below a module, to so many levels
  abbrev pub instance_count : ℕ → ModuleEntry → ℕ
  instance_count zero m = 0
  instance_count (suc levels) m =
      sum_by (λ i. 1 + option_map_or (instance_count levels) (lookup (nat_eq i.«module») modules) 0) m.instances

  -- a module has too many levels, or too many instances below it
  unfoldable pub has_many_instances : ModuleEntry → Bool
  has_many_instances m = is_deeper MAX_DEPTH m || nat_lt MAX_INSTANCES (instance_count MAX_DEPTH m)
