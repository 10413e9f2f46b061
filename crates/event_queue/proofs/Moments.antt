-- The map from moments to numbers, and what is noted in it.
use Rattle.std.proofs.Common.{◌≡◌, ◌≢◌, ◌<◌, ◌∙◌, ap, sym, subst, refl, Bool, true, false, cond, ℕ, List, [], ◌∷◌, ◌++◌, map, Option, Some, None, Vec, Global, IfSome, IsSome, arith}
use Rattle.std.specs.BTreeMap.{BTreeMap, get}
use Rattle.std.specs.Cmp.{nat_cmp_is}
use Rattle.std.specs.Map.{lookup}
use Rattle.std.specs.Option.{option_map, option_map_or}
use Rattle.std.specs.Ordering.{is_eq, is_gt, nat_cmp}
use Rattle.std.specs.Prelude.{nat_eq}
use Rattle.std.specs.declared.cmp.Ordering.TheVariants.{Equal, Greater}
use Rattle.std.proofs.lemmas.Bool.Decides.{nat_tests}
use Rattle.std.proofs.lemmas.Map.Made.{lookup-map_values}
use Rattle.event_queue.specs.kept.Noted.{AreSame, IsAdded, IsFilled, IsTaken, noted}

abbrev Numbers : Type 0
Numbers = Vec ℕ Global

-- what a queue is seen as
abbrev pub seen : BTreeMap ℕ Numbers → List (ℕ × List ℕ)
seen m = map (λ e. (e.0, e.1.items)) m.entries

abbrev pub items : Option Numbers → List ℕ
items o = option_map_or (λ numbers. numbers.items) o []

found : (m : BTreeMap ℕ Numbers) (t : ℕ) → lookup (λ moment. is_eq (nat_cmp t moment)) (seen m) ≡ option_map (λ numbers. numbers.items) (get nat_cmp m t)
found m t = lookup-map_values (λ (numbers : Numbers). numbers.items) (λ moment. is_eq (nat_cmp t moment)) m.entries

items_of : (o : Option Numbers) → option_map_or (λ l. l) (option_map (λ numbers. numbers.items) o) [] ≡ items o
items_of None = refl
items_of (Some numbers) = refl

-- what is noted for a moment
pub noted_is : (m : BTreeMap ℕ Numbers) (t : ℕ) → noted (seen m) t ≡ items (get nat_cmp m t)
noted_is m t = ap (λ o. option_map_or (λ l. l) o []) (found m t) ∙ items_of (get nat_cmp m t)

same_moment_by : (t u : ℕ) (b : Bool) → nat_eq t u ≡ b → is_eq (nat_cmp t u) ≡ b
same_moment_by t u true e = ap is_eq (sym (nat_cmp_is t u Equal (grind (arith, nat_tests))))
same_moment_by t u false e = grind (arith, nat_tests)

pub same_moment : (t u : ℕ) → is_eq (nat_cmp t u) ≡ nat_eq t u
same_moment t u = same_moment_by t u (nat_eq t u) refl

-- the map with w for t
module _ (m n : BTreeMap ℕ Numbers) (t : ℕ) (w : Option Numbers) (changed : (q : ℕ) → get nat_cmp n q ≡ cond (is_eq (nat_cmp t q)) w (get nat_cmp m q)) where
  there : (u : ℕ) → get nat_cmp n u ≡ cond (nat_eq t u) w (get nat_cmp m u)
  there u = changed u ∙ ap (λ (b : Bool). cond b w (get nat_cmp m u)) (same_moment t u)

  added_by : (number : ℕ) → items w ≡ items (get nat_cmp m t) ++ number ∷ [] → (u : ℕ) (b : Bool) → nat_eq t u ≡ b →
      items (cond b w (get nat_cmp m u)) ≡ cond b (noted (seen m) u ++ number ∷ []) (noted (seen m) u)
  added_by number more u true e =
      let same : t ≡ u = grind (arith, nat_tests) in
      more ∙ ap (λ (v : ℕ). items (get nat_cmp m v) ++ number ∷ []) same ∙ ap (λ l. l ++ number ∷ []) (sym (noted_is m u))
  added_by number more u false e = sym (noted_is m u)

  pub added : (number : ℕ) → items w ≡ items (get nat_cmp m t) ++ number ∷ [] → IsAdded t number (seen m) (seen n)
  added number more u = noted_is n u ∙ ap items (there u) ∙ added_by number more u (nat_eq t u) refl

  kept_by : items w ≡ items (get nat_cmp m t) → (u : ℕ) (b : Bool) → nat_eq t u ≡ b → items (cond b w (get nat_cmp m u)) ≡ noted (seen m) u
  kept_by same u true e =
      let here : t ≡ u = grind (arith, nat_tests) in
      same ∙ ap (λ (v : ℕ). items (get nat_cmp m v)) here ∙ sym (noted_is m u)
  kept_by same u false e = sym (noted_is m u)

  pub kept : items w ≡ items (get nat_cmp m t) → AreSame (seen m) (seen n)
  kept same u = noted_is n u ∙ ap items (there u) ∙ kept_by same u (nat_eq t u) refl

  taken_by : w ≡ None → (u : ℕ) (b : Bool) → items (cond b w (get nat_cmp m u)) ≡ cond b [] (noted (seen m) u)
  taken_by none u true = ap items none
  taken_by none u false = sym (noted_is m u)

  pub taken : w ≡ None → IsTaken t (seen m) (seen n)
  taken none u = noted_is n u ∙ ap items (there u) ∙ taken_by none u (nat_eq t u)

  each : (o : Option Numbers) → IfSome o (λ numbers. numbers.items ≢ []) → IfSome (option_map (λ numbers. numbers.items) o) (λ l. l ≢ [])
  each None some = some
  each (Some numbers) some = some

  filled_by : IfSome w (λ numbers. numbers.items ≢ []) → IsFilled (seen m) → (u : ℕ) (b : Bool) → IfSome (option_map (λ numbers. numbers.items) (cond b w (get nat_cmp m u))) (λ l. l ≢ [])
  filled_by some before u true = each w some
  filled_by some before u false = subst (λ o. IfSome o (λ l. l ≢ [])) (found m u) (before u)

  -- each moment has a number again
  pub filled : IfSome w (λ numbers. numbers.items ≢ []) → IsFilled (seen m) → IsFilled (seen n)
  filled some before u =
      subst (λ o. IfSome o (λ l. l ≢ [])) (sym (found n u ∙ ap (option_map (λ numbers. numbers.items)) (there u))) (filled_by some before u (nat_eq t u))

-- a list to which something was added is not empty
pub not_empty : (l : List ℕ) (number : ℕ) → l ++ number ∷ [] ≢ []
not_empty [] number e = absurd (cc)
not_empty (x ∷ l) number e = absurd (cc)

-- a moment that is kept has a number
pub some_there : (m : BTreeMap ℕ Numbers) (t : ℕ) (numbers : Numbers) → IsFilled (seen m) → get nat_cmp m t ≡ Some numbers → numbers.items ≢ []
some_there m t numbers before at = subst (λ o. IfSome o (λ l. l ≢ [])) (found m t ∙ ap (option_map (λ v. v.items)) at) (before t)

pub noted_there : (m : BTreeMap ℕ Numbers) (t : ℕ) (numbers : Numbers) → IsFilled (seen m) → get nat_cmp m t ≡ Some numbers → noted (seen m) t ≢ []
noted_there m t numbers before at = λ none. some_there m t numbers before at (sym (ap items at) ∙ sym (noted_is m t) ∙ none)

none_by : (o : Option Numbers) → (IsSome o → ⊥) → items o ≡ []
none_by None never = refl
none_by (Some numbers) never = absurd (never refl)

-- nothing is noted for a moment before the least one
pub none_before : (m : BTreeMap ℕ Numbers) (t u : ℕ) → ((q : ℕ) → IsSome (get nat_cmp m q) → is_gt (nat_cmp t q) ≡ false) → u < t → noted (seen m) u ≡ []
none_before m t u least low =
    noted_is m u ∙ none_by (get nat_cmp m u) (λ some.
    let off = least u some in
    let on : is_gt (nat_cmp t u) ≡ true = ap is_gt (sym (nat_cmp_is t u Greater low)) in
    let never : false ≡ true = sym off ∙ on in cc)
