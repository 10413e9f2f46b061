-- The design that the modules of a text make.
use Rattle.std.proofs.Common.{◌≡◌, ℕ, ◌-◌, ◌^◌, ◌<◌, min, List, length, get_or, Some, None, All, refl, sym, ap, subst, ◌∙◌}
use Rattle.std.specs.List.{AllZip, slice_get}
use Rattle.std.proofs.lemmas.Option.{slice_get-get_or}
use Rattle.vtext.specs.Modules.{ModuleEntry, ModuleList}
use Rattle.vtext.specs.kept.Sound.{IsSoundModule}
use Rattle.elaboration.specs.Elaborations.{elaboration_fault}
use Rattle.elaboration.specs.kept.Elaborations.{IsElaboration, IsScope}
use Rattle.elaboration.specs.kept.Numbered.{AreDistinct, SoFar, kept_scopes}
use Rattle.elaboration.specs.Scopes.{nets_of, scopes_of}
use Rattle.elaboration.specs.Tops.{top_of}
use Rattle.elaboration.proofs.KeptLemmas.{count_ok, kept_ok}

pub all_distinct : (names : List (List ℕ)) (modules : List (ℕ × ModuleEntry)) → All (IsSoundModule names) modules → All (λ m. AreDistinct m.1.nets) modules
all_distinct names modules sound = λ k d within. (sound k d within).distinct_nets

-- the module at a place, where that is the top's
pub top_at : (modules : List (ℕ × ModuleEntry)) (place : ℕ) (top d : ℕ × ModuleEntry) → place < length modules → slice_get modules place ≡ top_of modules → top ≡ get_or modules place d → top_of modules ≡ Some top
top_at modules place top d within is_top is = sym is_top ∙ slice_get-get_or modules place d within ∙ ap (λ (m : ℕ × ModuleEntry). Some m) (sym is)

module _ (list : ModuleList) (top : ℕ × ModuleEntry) (sound : All (IsSoundModule list.names) list.modules) where
  pub elaborated : (text : List ℕ) (so_far : SoFar) → elaboration_fault text list.modules ≡ None → top_of list.modules ≡ Some top → so_far ≡ kept_scopes list.names list.modules top.1
      → IsElaboration text list (record { top = top; scopes = so_far.list; net_count = so_far.count })
  elaborated text so_far faultless is kept =
      let distinct = all_distinct list.names list.modules sound in
      let flat = nets_of list.names list.modules top.1 in
      record {
        faultless = faultless;
        top = is;
        scopes = subst (λ (s : SoFar). AllZip (IsScope list.names list.modules flat) s.list (scopes_of list.names list.modules top.1)) (sym kept) (kept_ok list.names list.modules flat distinct top.1 refl);
        net_count = ap (λ (s : SoFar). s.count) kept ∙ count_ok list.names list.modules flat distinct top.1 refl;
      }

  pub crowded : (limit : ℕ) → limit < (kept_scopes list.names list.modules top.1).count → limit < min (length (nets_of list.names list.modules top.1)) (2 ^ 32 - 1)
  crowded limit past =
      subst (λ (n : ℕ). limit < n) (count_ok list.names list.modules (nets_of list.names list.modules top.1) (all_distinct list.names list.modules sound) top.1 refl) past
