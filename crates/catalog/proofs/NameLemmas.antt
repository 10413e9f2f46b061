-- Keys by name: what a write and a copy keep.
use Rattle.std.proofs.Common.{◌≡◌, ℕ, Bool, true, false, cond, List, [], ◌∷◌, Option, Some, None, refl, ap, sym, ◌∙◌}
use Rattle.std.proofs.lemmas.Bool.{both_ways}
use Rattle.std.specs.List.{AllZip}
use Rattle.std.specs.Map.{lookup}
use Rattle.std.specs.Option.{option_or}
use Rattle.indexmap.specs.IndexMap.{insert_entry}
use Rattle.catalog.specs.Catalog.{same_name}
use Rattle.catalog.proofs.EntryLemmas.{name_differs, name_is, name_same}

pub lookup_same : {K X : Type 0} (t : K → Bool) (C : K × X → K × X → Type 0) → ((x y : K × X) → C x y → (t y.0 ≡ t x.0) × (y.1 ≡ x.1)) → (xs ys : List (K × X)) → AllZip C xs ys → lookup t ys ≡ lookup t xs
lookup_same t C same [] [] h = refl
lookup_same t C same [] (y ∷ ys) h = absurd h
lookup_same t C same (x ∷ xs) [] h = absurd h
lookup_same t C same (x ∷ xs) (y ∷ ys) h =
    let rest = lookup_same t C same xs ys h.1 in
    let first = same x y h.0 in
    λ i. cond (first.0 i) (Some (first.1 i)) (rest i)

-- a name found first in one part, and then in another
pub or_changed : (b : Bool) (key : ℕ) (changed old base : Option ℕ) → changed ≡ cond b (Some key) old → option_or changed base ≡ cond b (Some key) (option_or old base)
or_changed true key changed old base h = ap (λ o. option_or o base) h
or_changed false key changed old base h = ap (λ o. option_or o base) h

-- A write under a name.

name_turned : (a b : List ℕ) → same_name a b ≡ same_name b a
name_turned a b = step (same_name a b) refl
  where
    step : (o : Bool) → same_name a b ≡ o → same_name a b ≡ same_name b a
    step true at = at ∙ sym (name_same b a (sym (name_is a b at)))
    step false at = at ∙ sym (name_differs b a (λ same. both_ways (same_name a b) at (name_same a b (sym same))))

cond_twice : {X : Type 0} (a b : Bool) (x y z : X) → a ≡ b → cond a x z ≡ cond b x (cond a y z)
cond_twice true true x y z h = refl
cond_twice false false x y z h = refl
cond_twice true false x y z h = cc
cond_twice false true x y z h = cc

cond_turned : {X : Type 0} (a b : Bool) (x y z : X) → (a ≡ true → b ≡ true → ⊥) → cond a y (cond b x z) ≡ cond b x (cond a y z)
cond_turned true true x y z h = absurd (h refl refl)
cond_turned true false x y z h = refl
cond_turned false true x y z h = refl
cond_turned false false x y z h = refl

module _ {K X : Type 0} (name_of : K → List ℕ) where
  pub lookup_insert : (es : List (K × X)) (k : K) (v : X) (name : List ℕ) → lookup (λ x. same_name name (name_of x)) (insert_entry (λ a b. same_name (name_of a) (name_of b)) es k v) ≡ cond (same_name (name_of k) name) (Some v) (lookup (λ x. same_name name (name_of x)) es)
  lookup_insert [] k v name = ap (λ b. cond b (Some v) None) (name_turned name (name_of k))
  lookup_insert (e ∷ es) k v name = step (same_name (name_of k) (name_of e.0)) refl (lookup_insert es k v name)
    where
      is : K → Bool
      is x = same_name name (name_of x)

      both : K → K → Bool
      both a b = same_name (name_of a) (name_of b)

      step : (b : Bool) → same_name (name_of k) (name_of e.0) ≡ b → lookup is (insert_entry both es k v) ≡ cond (same_name (name_of k) name) (Some v) (lookup is es) → lookup is (insert_entry both (e ∷ es) k v) ≡ cond (same_name (name_of k) name) (Some v) (cond (is e.0) (Some e.1) (lookup is es))
      step true at rest =
          let same : is e.0 ≡ same_name (name_of k) name =
          name_turned name (name_of e.0) ∙ ap (λ n. same_name n name) (sym (name_is (name_of k) (name_of e.0) at)) in
          rw at (cond_twice (is e.0) (same_name (name_of k) name) (Some v) (Some e.1) (lookup is es) same)
      step false at rest =
          let apart : is e.0 ≡ true → same_name (name_of k) name ≡ true → ⊥ =
          λ one other. both_ways (same_name (name_of k) (name_of e.0)) at (name_same (name_of k) (name_of e.0) (name_is (name_of k) name other ∙ name_is name (name_of e.0) one)) in
          rw at
          (ap (λ o. cond (is e.0) (Some e.1) o) rest
          ∙ cond_turned (is e.0) (same_name (name_of k) name) (Some v) (Some e.1) (lookup is es) apart)
