-- What is noted for places, one place more.
use Rattle.std.proofs.Common.{◌≡◌, ℕ, suc, ◌+◌, ◌<◌, ◌∙◌, ap, sym, List, Bool, true, map, take, Some, eqb-true, option_map, nat_eq, slice_get}
use Rattle.std.proofs.lemmas.Option.{same_Some, slice_get-map}
use Rattle.rundiff.specs.kept.Places.{is_among}
use Rattle.scratch.specs.kept.Places.{IsNotedWithin, Keeps, has}
use Rattle.scratch.proofs.Among.{nat_itself}
use Rattle.scratch.proofs.Notes.{within_on}
use Rattle.rundiff.proofs.Steps.{each_more}

-- an element of a list that is mapped
pub mapped_at : {X Y : Type 0} (f : X → Y) (xs : List X) (ys : List Y) (i : ℕ) (x : X) (y : Y) → ys ≡ map f xs → slice_get xs i ≡ Some x → slice_get ys i ≡ Some y → y ≡ f x
mapped_at f xs ys i x y those at read = same_Some y (f x) (sym read ∙ ap (λ l. slice_get l i) those ∙ slice_get-map f xs i ∙ ap (option_map f) at)

module _ (wanted : ℕ → ℕ → Bool) where
  module _ (xs : List ℕ) (i x : ℕ) (at : slice_get xs i ≡ Some x) (old new : ℕ → List ℕ) (keeps : Keeps old new)
      (so_far : (p u : ℕ) → is_among (take i xs) p ≡ true → wanted p u ≡ true → has p (old u) ≡ true)
      (here : (u : ℕ) → wanted x u ≡ true → has x (new u) ≡ true) where
    -- what is wanted at the moments themselves
    pub more_events : (p u : ℕ) → is_among (take (i + 1) xs) p ≡ true → wanted p u ≡ true → has p (new u) ≡ true
    more_events p u among h = each_more (λ q. wanted q u ≡ true → has q (new u) ≡ true) xs i x at (λ q was apart some. keeps q u (so_far q u was some)) (here u) p among h

  module _ (t : ℕ) (xs : List ℕ) (i x : ℕ) (at : slice_get xs i ≡ Some x) (old new : ℕ → List ℕ) (keeps : Keeps old new)
      (so_far : (p u : ℕ) → is_among (take i xs) p ≡ true → t < u → wanted p u ≡ true → IsNotedWithin old p (suc t) u)
      (here : (u : ℕ) → t < u → wanted x u ≡ true → IsNotedWithin new x (suc t) u) where
    -- what is wanted at the moments themselves, or before
    pub more_within : (p u : ℕ) → is_among (take (i + 1) xs) p ≡ true → t < u → wanted p u ≡ true → IsNotedWithin new p (suc t) u
    more_within p u among after h =
        each_more (λ q. wanted q u ≡ true → IsNotedWithin new q (suc t) u) xs i x at (λ q was apart some. within_on old new q (suc t) u keeps (so_far q u was after some)) (here u after) p among h

-- places that are all noted for one moment
pub more_noted : (xs : List ℕ) (i x : ℕ) → slice_get xs i ≡ Some x → (old new : ℕ → List ℕ) (t : ℕ) → Keeps old new → ((p : ℕ) → is_among (take i xs) p ≡ true → has p (old t) ≡ true) → has x (new t) ≡ true →
    (p : ℕ) → is_among (take (i + 1) xs) p ≡ true → has p (new t) ≡ true
more_noted xs i x at old new t keeps so_far here p among =
    more_events (λ q u. nat_eq u t) xs i x at old new keeps
    (λ q u within same. let e = eqb-true u t same in ap (λ (v : ℕ). has q (old v)) e ∙ so_far q within)
    (λ u same. let e = eqb-true u t same in ap (λ (v : ℕ). has x (new v)) e ∙ here)
    p t among (nat_itself t)
