-- Looking for a fault in the scopes of a design one at a time, each forgotten before the next one: for designs of too many nets to list.
use Rattle.std.specs.Prelude.{◌≡◌, ◌+◌, ◌-◌, ◌^◌, ◌||◌, Bool, false, ℕ, zero, suc, min, nat_eq, List, length}
use Rattle.std.specs.List.{list_any}
use Rattle.std.specs.Map.{lookup}
use Rattle.std.specs.Option.{option_map_or}
use Rattle.vtext.specs.Modules.{InstanceEntry, ModuleEntry}
use Rattle.vtext.specs.Names.{name_at}
use Rattle.elaboration.specs.declared.limits.TheConstants.{MAX_DEPTH}
use Rattle.elaboration.specs.kept.Numbered.{PlacedScope, inner_alone, top_alone}
use Rattle.vread.specs.declared.search.Wanted.{Wanted}
use Rattle.vread.specs.declared.search.Wanted.TheVariants.{LongName, WrongPort}
use Rattle.vread.specs.kept.Parts.{is_long_after, is_port_wrong}

-- `names` is the table of names, and `modules` are those of the text.
module _ (names : List (List ℕ)) where
  -- what is looked for is in a scope whose names stand after a path of so many bytes
  abbrev pub is_wanted : Wanted → ℕ → PlacedScope → Bool
  is_wanted WrongPort path scope = is_port_wrong scope
  is_wanted LongName path scope = is_long_after names path scope

  -- the bytes of the path of an instance's scope, as far as numbers go
  abbrev pub path_after : ℕ → InstanceEntry → ℕ
  path_after path i = min (path + length (name_at names i.name) + 1) (2 ^ 64 - 1)

  -- two instances whose scopes have the same faults
  pub record AreAlike (a b : InstanceEntry) : Type 0 where
    pub modules : a.«module» ≡ b.«module»
    pub connections : a.connections ≡ b.connections
    pub lengths : length (name_at names a.name) ≡ length (name_at names b.name)

module _ (names : List (List ℕ)) (modules : List (ℕ × ModuleEntry)) (wanted : Wanted) where
  -- it is in a scope or in one below it, to so many levels
  abbrev pub any_below : ℕ → ℕ → PlacedScope → Bool
  any_below zero path scope = is_wanted names wanted path scope
  any_below (suc levels) path scope =
      is_wanted names wanted path scope
      || list_any (λ i. option_map_or (λ m. any_below levels (path_after names path i) (inner_alone scope i m)) (lookup (nat_eq i.«module») modules) false) scope.entry.instances

  -- it is in the scope of an instance, or in one below that
  abbrev pub any_inside : ℕ → ℕ → PlacedScope → InstanceEntry → Bool
  any_inside levels path scope i = option_map_or (λ m. any_below levels (path_after names path i) (inner_alone scope i m)) (lookup (nat_eq i.«module») modules) false

  -- it is in a scope of the design with this module at its top
  unfoldable pub any_scope : ModuleEntry → Bool
  any_scope m = any_below MAX_DEPTH 0 (top_alone m)
