-- Scopes that are added one after another.
use Rattle.std.proofs.Common.{◌≡◌, ℕ, zero, suc, ◌+◌, ◌-◌, ◌^◌, ◌<◌, ◌≤◌, min, List, [], ◌∷◌, ◌++◌, length, take, get_or, Option, Some, None, nat_eq, refl, sym, ap, ◌∙◌, arith}
use Rattle.std.specs.Prelude.{fold, option_map}
use Rattle.std.specs.List.{slice_get}
use Rattle.std.specs.Map.{lookup}
use Rattle.std.specs.Option.{option_map_or}
use Rattle.std.proofs.lemmas.List.{take_all}
use Rattle.std.proofs.lemmas.List.Sums.{fold_more}
use Rattle.vtext.specs.declared.net.Net as nets
use Rattle.vtext.specs.Modules.{InstanceEntry, ModuleEntry}
use Rattle.elaboration.specs.declared.node.NodeRef.{NodeRef}
use Rattle.elaboration.specs.kept.Numbered.{PlacedScope, SoFar, Start, inner_start, next_place, place_after, placed, with_below, with_instance, with_scope, with_scopes}

-- one place of a list, after more
get_append : {X : Type 0} (xs ys : List X) (i : ℕ) (x : X) → slice_get xs i ≡ Some x → slice_get (xs ++ ys) i ≡ Some x
get_append [] ys i x e = absurd (cc)
get_append (y ∷ xs) ys zero x e = e
get_append (y ∷ xs) ys (suc i) x e = get_append xs ys i x e

pub get_last : {X : Type 0} (xs : List X) (x : X) → slice_get (xs ++ x ∷ []) (length xs) ≡ Some x
get_last [] x = refl
get_last (y ∷ xs) x = get_last xs x

-- What holds of the scopes so far, and still with each more, holds in the end.
module _ (names : List (List ℕ)) (modules : List (ℕ × ModuleEntry)) (Holds : SoFar → Type 0) (step : (so_far : SoFar) (start : Start) → Holds so_far → Holds (with_scope so_far start)) where
  fold_holds : (f : SoFar → InstanceEntry → SoFar) → ((s : SoFar) (i : InstanceEntry) → Holds s → Holds (f s i)) → (so_far : SoFar) (instances : List InstanceEntry) → Holds so_far → Holds (fold f so_far instances)
  fold_holds f each so_far [] holds = holds
  fold_holds f each so_far (i ∷ instances) holds = fold_holds f each (f so_far i) instances (each so_far i holds)

  of_found : (o : Option ModuleEntry) (s : SoFar) (f : ModuleEntry → SoFar) → Holds s → ((m : ModuleEntry) → Holds (f m)) → Holds (option_map_or f o s)
  of_found None s f holds each = holds
  of_found (Some m) s f holds each = each m

  below_holds : (levels : ℕ) (scope : PlacedScope) (so_far : SoFar) → Holds so_far → Holds (with_below names modules levels scope so_far)
  below_holds zero scope so_far holds = holds
  below_holds (suc levels) scope so_far holds =
      fold_holds (with_instance names modules levels scope)
      (λ s i here. of_found (lookup (nat_eq i.«module») modules) s (λ m. with_scopes names modules levels s (inner_start names scope i m)) here
      (λ m. below_holds levels (placed s.count (inner_start names scope i m)) (with_scope s (inner_start names scope i m)) (step s (inner_start names scope i m) here)))
      so_far scope.entry.instances holds

  scopes_hold : (levels : ℕ) (so_far : SoFar) (start : Start) → Holds so_far → Holds (with_scopes names modules levels so_far start)
  scopes_hold levels so_far start holds = below_holds levels (placed so_far.count start) (with_scope so_far start) (step so_far start holds)

  instance_holds : (levels : ℕ) (scope : PlacedScope) (so_far : SoFar) (i : InstanceEntry) → Holds so_far → Holds (with_instance names modules levels scope so_far i)
  instance_holds levels scope so_far i holds =
      of_found (lookup (nat_eq i.«module») modules) so_far (λ m. with_scopes names modules levels so_far (inner_start names scope i m)) holds
      (λ m. scopes_hold levels so_far (inner_start names scope i m) holds)

  -- what holds after some instances holds after all
  rest_holds : (levels : ℕ) (scope : PlacedScope) (instances : List InstanceEntry) (k : ℕ) (so_far : SoFar) → Holds (fold (with_instance names modules levels scope) so_far (take k instances))
      → Holds (fold (with_instance names modules levels scope) so_far instances)
  rest_holds levels scope instances zero so_far holds = fold_holds (with_instance names modules levels scope) (instance_holds levels scope) so_far instances holds
  rest_holds levels scope [] (suc k) so_far holds = holds
  rest_holds levels scope (i ∷ instances) (suc k) so_far holds = rest_holds levels scope instances k (with_instance names modules levels scope so_far i) holds

module _ (names : List (List ℕ)) (modules : List (ℕ × ModuleEntry)) where
  -- a scope stays where it is
  pub scopes_keep : (place : ℕ) (kept : PlacedScope) (levels : ℕ) (so_far : SoFar) (start : Start) → slice_get so_far.list place ≡ Some kept → slice_get (with_scopes names modules levels so_far start).list place ≡ Some kept
  scopes_keep place kept =
      scopes_hold names modules (λ s. slice_get s.list place ≡ Some kept) (λ s start there. get_append s.list (placed s.count start ∷ []) place kept there)

  -- nets that are too many stay so
  next_past : (most place : ℕ) (net : nets.Net) (node : Option NodeRef) → most < 2 ^ 32 - 1 → most < place → most < next_place place net node
  next_past most place net (Some node) room past = past
  next_past most place net None room past = omega arith

  places_past : (most place : ℕ) (listed : List (ℕ × nets.Net)) (given : List (Option NodeRef)) → most < 2 ^ 32 - 1 → most < place → most < place_after place listed given
  places_past most place [] given room past = past
  places_past most place (net ∷ more) [] room past = past
  places_past most place (net ∷ more) (node ∷ given) room past = places_past most (next_place place net.1 node) more given room (next_past most place net.1 node room past)

  pub scopes_past : (most : ℕ) → most < 2 ^ 32 - 1 → (levels : ℕ) (so_far : SoFar) (start : Start) → most < so_far.count → most < (with_scopes names modules levels so_far start).count
  scopes_past most room =
      scopes_hold names modules (λ s. most < s.count) (λ s start past. places_past most s.count start.entry.nets start.given room past)

  pub rest_past : (most : ℕ) → most < 2 ^ 32 - 1 → (levels : ℕ) (scope : PlacedScope) (instances : List InstanceEntry) (k : ℕ) (so_far : SoFar)
      → most < (fold (with_instance names modules levels scope) so_far (take k instances)).count → most < (fold (with_instance names modules levels scope) so_far instances).count
  rest_past most room =
      rest_holds names modules (λ s. most < s.count) (λ s start past. places_past most s.count start.entry.nets start.given room past)

module _ (names : List (List ℕ)) (modules : List (ℕ × ModuleEntry)) (levels : ℕ) (scope : PlacedScope) (instances : List InstanceEntry) (k : ℕ) (i : InstanceEntry) (is : i ≡ get_or instances k i) (within : k < length instances) (first so_far now : SoFar)
    (before : so_far ≡ fold (with_instance names modules levels scope) first (take k instances)) where
  step : fold (with_instance names modules levels scope) first (take (k + 1) instances) ≡ with_instance names modules levels scope so_far i
  step =
      fold_more (with_instance names modules levels scope) first instances k i within
      ∙ ap (λ (j : InstanceEntry). with_instance names modules levels scope (fold (with_instance names modules levels scope) first (take k instances)) j) (sym is)
      ∙ ap (λ (s : SoFar). with_instance names modules levels scope s i) (sym before)

  -- the scope of an instance of a module that the text has, and those below it
  pub instance_some : (start : Start) (found : Option ModuleEntry) → found ≡ lookup (nat_eq i.«module») modules → Some start ≡ option_map (inner_start names scope i) found → now ≡ with_scopes names modules levels so_far start
      → now ≡ fold (with_instance names modules levels scope) first (take (k + 1) instances)
  instance_some start (Some m) found is_start made =
      let same : start ≡ inner_start names scope i m = cc in
      made
      ∙ ap (with_scopes names modules levels so_far) same
      ∙ ap (λ o. option_map_or (λ m. with_scopes names modules levels so_far (inner_start names scope i m)) o so_far) found
      ∙ sym step
  instance_some start None found is_start made = absurd (cc)

  -- of one that it has not
  pub instance_none : (found : Option ModuleEntry) → found ≡ lookup (nat_eq i.«module») modules → ◌≡◌ {A = Option Start} None (option_map (inner_start names scope i) found)
      → so_far ≡ fold (with_instance names modules levels scope) first (take (k + 1) instances)
  instance_none None found none = ap (λ o. option_map_or (λ m. with_scopes names modules levels so_far (inner_start names scope i m)) o so_far) found ∙ sym step
  instance_none (Some m) found none = absurd (cc)

-- A scope and those below it, from its instances.
module _ (names : List (List ℕ)) (modules : List (ℕ × ModuleEntry)) (levels : ℕ) (so_far : SoFar) (start : Start) where
  pub scopes_flat : levels ≡ 0 → with_scope so_far start ≡ with_scopes names modules levels so_far start
  scopes_flat flat = ap (λ (n : ℕ). with_below names modules n (placed so_far.count start) (with_scope so_far start)) (sym flat)

  pub scopes_whole : (instances : List InstanceEntry) → 0 < levels → instances ≡ start.entry.instances
      → fold (with_instance names modules (levels - 1) (placed so_far.count start)) (with_scope so_far start) instances ≡ with_scopes names modules levels so_far start
  scopes_whole instances more are =
      let next : suc (levels - 1) ≡ levels = omega arith in
      ap (λ (is : List InstanceEntry). fold (with_instance names modules (levels - 1) (placed so_far.count start)) (with_scope so_far start) is) are
      ∙ ap (λ (n : ℕ). with_below names modules n (placed so_far.count start) (with_scope so_far start)) next

  pub scopes_end : (instances : List InstanceEntry) (k : ℕ) → 0 < levels → instances ≡ start.entry.instances → length instances ≤ k
      → fold (with_instance names modules (levels - 1) (placed so_far.count start)) (with_scope so_far start) (take k instances) ≡ with_scopes names modules levels so_far start
  scopes_end instances k more are past =
      ap (λ (is : List InstanceEntry). fold (with_instance names modules (levels - 1) (placed so_far.count start)) (with_scope so_far start) is) (take_all k instances past)
      ∙ scopes_whole instances more are
