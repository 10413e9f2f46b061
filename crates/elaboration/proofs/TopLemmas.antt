-- Modules that are found one after another.
use Rattle.std.proofs.Common.{◌≡◌, ℕ, ◌+◌, ◌<◌, Bool, true, false, cond, not, List, [], ◌∷◌, Option, Some, None, is_some, IsSome, length, drop, get_or, refl, sym, ap, ◌∙◌}
use Rattle.std.proofs.lemmas.List.{at_drop_more}
use Rattle.std.specs.List.{filter, find}
use Rattle.std.specs.Option.{option_map_or, option_or}
use Rattle.vtext.specs.declared.fault.ReadFaultKind.TheVariants.{Recursive}
use Rattle.vtext.specs.Modules.{ModuleEntry}
use Rattle.elaboration.specs.Elaborations.{elaboration_fault, levels_fault}
use Rattle.elaboration.specs.Ports.{fault_at, second_pass}
use Rattle.elaboration.specs.Tops.{is_recursive, is_top, third_pass, top_of, tops_fault, tops_of}

module _ {X : Type 0} (p : X → Bool) (xs : List X) (i : ℕ) (d : X) (within : i < length xs) where
  pub find_past : p (get_or xs i d) ≡ false → find p (drop (i + 1) xs) ≡ find p (drop i xs)
  find_past none = sym (at_drop_more (find p) xs i d within ∙ ap (λ (b : Bool). cond b (Some (get_or xs i d)) (find p (drop (i + 1) xs))) none)

  pub find_here : p (get_or xs i d) ≡ true → find p (drop i xs) ≡ Some (get_or xs i d)
  find_here found = at_drop_more (find p) xs i d within ∙ ap (λ (b : Bool). cond b (Some (get_or xs i d)) (find p (drop (i + 1) xs))) found

  pub filter_past : p (get_or xs i d) ≡ false → filter p (drop (i + 1) xs) ≡ filter p (drop i xs)
  filter_past none = sym (at_drop_more (filter p) xs i d within ∙ ap (λ (b : Bool). cond b (get_or xs i d ∷ filter p (drop (i + 1) xs)) (filter p (drop (i + 1) xs))) none)

  pub filter_here : p (get_or xs i d) ≡ true → filter p (drop i xs) ≡ get_or xs i d ∷ filter p (drop (i + 1) xs)
  filter_here found = at_drop_more (filter p) xs i d within ∙ ap (λ (b : Bool). cond b (get_or xs i d ∷ filter p (drop (i + 1) xs)) (filter p (drop (i + 1) xs))) found

pub not_of : (b : Bool) → b ≡ true → not b ≡ false
not_of b e = ap not e

pub not_none : (b : Bool) → b ≡ false → not b ≡ true
not_none b e = ap not e

-- what is found first is the first of all that pass
module _ {X : Type 0} (p : X → Bool) where
  first_of_two : (b : Bool) (y x : X) (ys more : List X) → cond b (y ∷ filter p ys) (filter p ys) ≡ x ∷ more → (filter p ys ≡ x ∷ more → find p ys ≡ Some x) → cond b (Some y) (find p ys) ≡ Some x
  first_of_two true y x ys more e others = let same : y ≡ x = cc in ap Some same
  first_of_two false y x ys more e others = others e

  pub find_of_filter : (xs : List X) (x : X) (more : List X) → filter p xs ≡ x ∷ more → find p xs ≡ Some x
  find_of_filter [] x more e = absurd (cc)
  find_of_filter (y ∷ ys) x more e = first_of_two (p y) y x ys more e (find_of_filter ys x more)

-- Modules that have no fault have a top.

or_none : {X : Type 0} (a b : Option X) → option_or a b ≡ None → (a ≡ None) × (b ≡ None)
or_none None b e = (refl, e)
or_none (Some x) b e = absurd (cc)

one_top : (text : List ℕ) (modules tops : List (ℕ × ModuleEntry)) → filter (is_top modules) modules ≡ tops → tops_fault text tops ≡ None → IsSome (top_of modules)
one_top text modules [] is none = absurd (cc)
one_top text modules (top ∷ []) is none = ap is_some (find_of_filter (is_top modules) modules top [] is)
one_top text modules (top ∷ second ∷ more) is none = absurd (cc)

no_ring : (text : List ℕ) (modules : List (ℕ × ModuleEntry)) (ring : Option (ℕ × ModuleEntry))
    → option_map_or (λ (m : ℕ × ModuleEntry). Some (fault_at text m.1.start Recursive)) ring (tops_fault text (tops_of modules)) ≡ None → tops_fault text (tops_of modules) ≡ None
no_ring text modules None e = e
no_ring text modules (Some m) e = absurd (cc)

pub top_there : (text : List ℕ) (modules : List (ℕ × ModuleEntry)) → elaboration_fault text modules ≡ None → IsSome (top_of modules)
top_there text modules e =
    let late = (or_none (second_pass text modules) (option_or (third_pass text modules) (option_map_or (levels_fault text modules) (top_of modules) None)) e).1 in
    let third = (or_none (third_pass text modules) (option_map_or (levels_fault text modules) (top_of modules) None) late).0 in
    one_top text modules (tops_of modules) refl (no_ring text modules (find (is_recursive modules) modules) third)
