-- Ranks of modules by their names: where they never fall from a module to those of its instances, a module that has none of its own
-- rank among them is in no ring.
use Rattle.std.specs.Prelude.{Bool, ℕ, nat_eq, nat_lt, List, unwrap_or}
use Rattle.std.specs.List.{list_any}
use Rattle.std.specs.Map.{lookup}
use Rattle.vtext.specs.Modules.{InstanceEntry, ModuleEntry}

abbrev pub rank_of : List (ℕ × ℕ) → ℕ → ℕ
rank_of ranks name = unwrap_or (lookup (nat_eq name) ranks) 0

-- an instance is of a module of lower rank than this
abbrev pub is_lower : List (ℕ × ℕ) → ℕ → InstanceEntry → Bool
is_lower ranks rank i = nat_lt (rank_of ranks i.«module») rank

-- an instance is of a module of this rank
abbrev pub is_level : List (ℕ × ℕ) → ℕ → InstanceEntry → Bool
is_level ranks rank i = nat_eq rank (rank_of ranks i.«module»)

-- ranks fall from a module to one of its instances
abbrev pub fall : List (ℕ × ℕ) → List (ℕ × ModuleEntry) → Bool
fall ranks modules = list_any (λ m. list_any (is_lower ranks (rank_of ranks m.0)) m.1.instances) modules
