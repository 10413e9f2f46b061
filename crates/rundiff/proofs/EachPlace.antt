-- Lines of the old run by the places of the new design.
use Rattle.std.proofs.Common.{◌≡◌, ◌<◌, ◌∙◌, ap, sym, subst, ℕ, zero, suc, ◌+◌, List, [], ◌∷◌, ◌++◌, Some, length, map, arith, IfSome, slice_get, slice_index_or}
use Rattle.std.proofs.lemmas.List.{map-append, length_push}
use Rattle.std.proofs.lemmas.Option.{get_or_from_slice_get}
use Rattle.rundiff.specs.kept.OldRuns.{HoldsEach}

holds_more : {X : Type 0} (P : ℕ → X → Type 0) (xs : List X) (x : X) → HoldsEach xs P → P (length xs) x → HoldsEach (xs ++ x ∷ []) P
holds_more P [] x each here zero = here
holds_more P [] x each here (suc p) = tt
holds_more P (y ∷ ys) x each here zero = each zero
holds_more P (y ∷ ys) x each here (suc p) = holds_more (λ q. P (suc q)) ys x (λ q. each (suc q)) here p

pub holds_at : {X : Type 0} (P : ℕ → X → Type 0) (xs : List X) (k : ℕ) (x : X) → HoldsEach xs P → slice_get xs k ≡ Some x → P k x
holds_at P xs k x each is = subst (λ o. IfSome o (P k)) is (each k)

-- the same, where there is such a place
pub holds_index : {X : Type 0} (P : ℕ → X → Type 0) (xs : List X) (k : ℕ) (d : X) → HoldsEach xs P → k < length xs → P k (slice_index_or xs k d)
holds_index P [] k d each low = absurd (omega arith)
holds_index P (x ∷ xs) zero d each low = each zero
holds_index P (x ∷ xs) (suc k) d each low = holds_index (λ q. P (suc q)) xs k d (λ q. each (suc q)) (omega arith)

-- the images of a list with an element more are as many as places so far, and that is so of them too
pub line_more : {X Y : Type 0} (f : X → Y) (P : ℕ → Y → Type 0) (xs ys : List X) (x : X) (k : ℕ) → ys ≡ xs ++ x ∷ [] → length (map f xs) ≡ k → HoldsEach (map f xs) P → P k (f x) →
    (length (map f ys) ≡ k + 1) × HoldsEach (map f ys) P
line_more f P xs ys x k pushed count each here =
    let more = ap (map f) pushed ∙ map-append f xs (x ∷ []) in (
      ap length more ∙ length_push (map f xs) (f x) ∙ ap (λ n. n + 1) count,
      subst (λ l. HoldsEach l P) (sym more) (holds_more P (map f xs) (f x) each (subst (λ n. P n (f x)) (sym count) here)),
    )

-- the line of a name is that of what stands at a place with this name
pub line_named : {X L : Type 0} (name : X → List ℕ) (of_name : List ℕ → L) (xs : List X) (p : ℕ) (x d : X) (text : List ℕ) (line : L) → slice_get xs p ≡ Some x → text ≡ name x →
    line ≡ of_name text → line ≡ of_name (name (slice_index_or xs p d))
line_named name of_name xs p x d text line at same is = is ∙ ap of_name (same ∙ sym (ap name (get_or_from_slice_get xs p x d at)))
