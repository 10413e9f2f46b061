-- What holds of a scope and of each scope in one of which it holds, holds of all below.
use Rattle.std.proofs.Common.{◌≡◌, ℕ, zero, suc, List, [], ◌∷◌, nat_eq, Option, Some, None, All, refl}
use Rattle.std.specs.Prelude.{flat_map}
use Rattle.std.specs.Map.{lookup}
use Rattle.std.specs.Option.{option_map_or}
use Rattle.std.proofs.lemmas.List.Elements.{All-append, All-cons, All-head, All-nil, All-tail}
use Rattle.vtext.specs.Modules.{InstanceEntry, ModuleEntry}
use Rattle.elaboration.specs.Scopes.{Scope, inner, scopes_below}

module _ (names : List (List ℕ)) (modules : List (ℕ × ModuleEntry)) (Holds : Scope → Type 0) where
  -- the scope of an instance, where the text has its module
  abbrev pub HoldsInside : Scope → InstanceEntry → Type 0
  HoldsInside scope i = (m : ModuleEntry) → Some m ≡ lookup (nat_eq i.«module») modules → Holds (inner names modules scope i m)

  module _ (inside : (scope : Scope) → Holds scope → All (HoldsInside scope) scope.entry.instances) (P : Scope → Type 0) (here : (scope : Scope) → Holds scope → P scope) where
    abbrev each_below : ℕ → Scope → InstanceEntry → List Scope
    each_below levels scope i = option_map_or (λ m. scopes_below names modules levels (inner names modules scope i m)) (lookup (nat_eq i.«module») modules) []

    abbrev AllBelow : ℕ → Type 0
    AllBelow levels = (scope : Scope) → Holds scope → All P (scopes_below names modules levels scope)

    one_instance : (levels : ℕ) → AllBelow levels → (scope : Scope) (i : InstanceEntry) → HoldsInside scope i → (found : Option ModuleEntry) → found ≡ lookup (nat_eq i.«module») modules
        → All P (option_map_or (λ m. scopes_below names modules levels (inner names modules scope i m)) found [])
    one_instance levels others scope i holds None e = All-nil P
    one_instance levels others scope i holds (Some m) e = others (inner names modules scope i m) (holds m e)

    each_instance : (levels : ℕ) → AllBelow levels → (scope : Scope) (instances : List InstanceEntry) → All (HoldsInside scope) instances → All P (flat_map (each_below levels scope) instances)
    each_instance levels others scope [] holds = All-nil P
    each_instance levels others scope (i ∷ instances) holds =
        All-append P (each_below levels scope i) (flat_map (each_below levels scope) instances)
        (one_instance levels others scope i (All-head (HoldsInside scope) i instances holds) (lookup (nat_eq i.«module») modules) refl)
        (each_instance levels others scope instances (All-tail (HoldsInside scope) i instances holds))

    pub all_below : (levels : ℕ) → AllBelow levels
    all_below zero scope holds = All-cons P scope [] (here scope holds) (All-nil P)
    all_below (suc levels) scope holds =
        All-cons P scope (flat_map (each_below levels scope) scope.entry.instances) (here scope holds)
        (each_instance levels (all_below levels) scope scope.entry.instances (inside scope holds))
