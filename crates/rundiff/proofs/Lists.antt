-- Lists: what is found and what passes; and tests.
use Rattle.std.proofs.Common.{◌≡◌, List, ◌∷◌, Bool, true, false, subst, Some, refl, All, suc, ◌∙◌, sym, arith, ◌&&◌, AllPairs}
use Rattle.std.specs.List.{filter, find, list_any}
use Rattle.std.proofs.lemmas.Map.Keys.{any_passes_from_place}
use Rattle.catalog.proofs.ListLemmas.{find_at, find_passes}
use Rattle.design.proofs.ByNameLemmas.{all_at}
use Rattle.design.proofs.LookLemmas.{any_found, some_is}
use Rattle.scratch.proofs.Among.{any_from}
use Rattle.scratch.proofs.Stirred.{all_of_filter}

-- what is said of each element holds of the one that is found
pub found_in : {X : Type 0} (P : X → Type 0) (q : X → Bool) (xs : List X) (x : X) → All P xs → find q xs ≡ Some x → P x × (q x ≡ true)
found_in P q xs x all is = let at = find_at q xs x is in (subst P at.2 (all at.0 x at.1), find_passes q xs x is)

-- where an element passes, one is found
pub found_any : {X : Type 0} (q : X → Bool) (xs : List X) → list_any q xs ≡ true → (x : X) × (find q xs ≡ Some x)
found_any q xs on = some_is (find q xs) (sym (any_found q xs) ∙ on)

-- what holds of each element that passes holds of each of those
pub filter_where : {X : Type 0} (p : X → Bool) (P : X → Type 0) (xs : List X) → All (λ x. p x ≡ true → P x) xs → All P (filter p xs)
filter_where p P xs all = all_of_filter p P xs (λ k x at. all_at (λ x. p x ≡ true → P x) xs k x all at)

-- what holds of each two elements of a list, of the first one and each other
pub pairs_head : {X : Type 0} (R : X → X → Type 0) (y : X) (ys : List X) → AllPairs R (y ∷ ys) → All (R y) ys
pairs_head R y ys all = λ k d within. all 0 (suc k) d (omega arith) (omega arith)

-- what would be true if another were is not where the other is not
pub not_so : (a b : Bool) → (a ≡ true → b ≡ true) → b ≡ false → a ≡ false
not_so true b says off = sym (says refl) ∙ off
not_so false b says off = refl

-- where the first of two tests passes and not both do, the other fails
pub off_by : (a b : Bool) → a ≡ true → (a && b) ≡ false → b ≡ false
off_by true b on off = off
off_by false b on off = absurd (cc)

-- where a test passes an element, so does one that passes more
pub any_so : {X : Type 0} (p q : X → Bool) → ((x : X) → p x ≡ true → q x ≡ true) → (xs : List X) → list_any p xs ≡ true → list_any q xs ≡ true
any_so p q more xs on = let f = any_from p xs on in any_passes_from_place q xs f.0 f.1 f.2 (more f.1 f.3)
