-- Loops that look for something, or go over modules.
use Rattle.std.proofs.Common.{◌≡◌, ℕ, zero, suc, ◌+◌, ◌-◌, ◌<◌, ◌≤◌, Bool, true, false, ◌||◌, List, [], ◌∷◌, ◌++◌, length, map, take, drop, get_or, sym, ap, ◌∙◌, arith}
use Rattle.std.specs.List.{list_any}
use Rattle.std.proofs.lemmas.List.{at_drop_more, map_more, take_all}
use Rattle.std.proofs.lemmas.List.{at_drop_all}

module _ {X : Type 0} (p : X → Bool) (xs : List X) (i : ℕ) (x : X) (is : x ≡ get_or xs i x) (within : i < length xs) where
  step : list_any p (drop i xs) ≡ (p x || list_any p (drop (i + 1) xs))
  step = at_drop_more (list_any p) xs i x within ∙ ap (λ (y : X). p y || list_any p (drop (i + 1) xs)) (sym is)

  pub any_here : p x ≡ true → true ≡ list_any p (drop i xs)
  any_here found = sym (step ∙ ap (λ (b : Bool). b || list_any p (drop (i + 1) xs)) found)

  pub any_past : p x ≡ false → list_any p (drop (i + 1) xs) ≡ list_any p (drop i xs)
  any_past none = sym (step ∙ ap (λ (b : Bool). b || list_any p (drop (i + 1) xs)) none)

pub any_end : {X : Type 0} (p : X → Bool) (xs : List X) (i : ℕ) → length xs ≤ i → false ≡ list_any p (drop i xs)
any_end p xs i past = sym (at_drop_all (list_any p) xs i past)

-- one item more of a list that maps another
pub map_next : {X Y : Type 0} (f : X → Y) (xs : List X) (i : ℕ) (d : X) (ys : List Y) (y : Y) → i < length xs → ys ≡ map f (take i xs) → y ≡ f (get_or xs i d)
    → ys ++ y ∷ [] ≡ map f (take (i + 1) xs)
map_next f xs i d ys y within before is =
    ap (λ zs. zs ++ y ∷ []) before ∙ ap (λ z. map f (take i xs) ++ z ∷ []) is ∙ sym (map_more f xs i d within)

pub map_end : {X Y : Type 0} (f : X → Y) (xs : List X) (i : ℕ) (ys : List Y) → length xs ≤ i → ys ≡ map f (take i xs) → ys ≡ map f xs
map_end f xs i ys past before = before ∙ ap (map f) (take_all i xs past)

-- tables that are made one from another
module _ {X : Type 0} (table : ℕ → X) (before after : X) (pass : (levels : ℕ) → before ≡ table levels → after ≡ table (suc levels)) (same : after ≡ before) where
  stays : (levels more : ℕ) → before ≡ table levels → before ≡ table (more + levels)
  stays levels zero is = let none : levels ≡ zero + levels = omega arith in is ∙ ap table none
  stays levels (suc more) is =
      let next : suc (more + levels) ≡ suc more + levels = omega arith in
      sym same ∙ pass (more + levels) (stays levels more is) ∙ ap table next

  -- after a pass that changes nothing no other does
  pub stays_until : (levels most : ℕ) → levels ≤ most → before ≡ table levels → before ≡ table most
  stays_until levels most within is =
      let left : ℕ = most - levels in
      let all : left + levels ≡ most = omega (arith, within) in
      stays levels left is ∙ ap table all
