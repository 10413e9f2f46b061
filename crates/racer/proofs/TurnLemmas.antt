-- One thing more, dealt to two in turn.
use Rattle.std.proofs.Common.{◌≡◌, ◌⊎◌, ◌∙◌, ◌+◌, ◌++◌, List, [], ◌∷◌, length, inl, inr, refl, ap, sym, arith}
use Rattle.edits.specs.declared.edit.Edit.{Edit}
use Rattle.racer.specs.Turns.{in_turn}

-- the first has as many as the second, or one more
sides : (xs : List (List Edit)) → (length (in_turn xs).0 ≡ length (in_turn xs).1) ⊎ (length (in_turn xs).0 ≡ length (in_turn xs).1 + 1)
sides [] = inl refl
sides (x ∷ xs) = elim (sides xs) [ inl even ↦ inr (omega arith) | inr odd ↦ inl (omega arith) ]

-- in the one case the next thing is for the first, in the other for the second
next : (xs : List (List Edit)) (x : List Edit)
    → (length (in_turn xs).0 ≡ length (in_turn xs).1 → in_turn (xs ++ x ∷ []) ≡ ((in_turn xs).0 ++ x ∷ [], (in_turn xs).1))
    × (length (in_turn xs).0 ≡ length (in_turn xs).1 + 1 → in_turn (xs ++ x ∷ []) ≡ ((in_turn xs).0, (in_turn xs).1 ++ x ∷ []))
next [] x = (λ even. refl, λ odd. absurd (omega arith))
next (y ∷ ys) x =
    let rest = next ys x in (
      λ even. ap (λ (hands : List (List Edit) × List (List Edit)). (y ∷ hands.1, hands.0)) (rest.1 (omega arith)),
      λ odd. ap (λ (hands : List (List Edit) × List (List Edit)). (y ∷ hands.1, hands.0)) (rest.0 (omega arith)),
    )

pub first_next : (xs first second : List (List Edit)) (x : List Edit) → (first, second) ≡ in_turn xs → length first ≡ length second
    → (first ++ x ∷ [], second) ≡ in_turn (xs ++ x ∷ [])
first_next xs first second x hands even =
    let same : length (in_turn xs).0 ≡ length (in_turn xs).1 =
    sym (ap (λ (h : List (List Edit) × List (List Edit)). length h.0) hands) ∙ (even ∙ ap (λ (h : List (List Edit) × List (List Edit)). length h.1) hands) in
    sym ((next xs x).0 same ∙ ap (λ (h : List (List Edit) × List (List Edit)). (h.0 ++ x ∷ [], h.1)) (sym hands))

pub second_next : (xs first second : List (List Edit)) (x : List Edit) → (first, second) ≡ in_turn xs → ¬ (length first ≡ length second)
    → (first, second ++ x ∷ []) ≡ in_turn (xs ++ x ∷ [])
second_next xs first second x hands other = go (sides xs)
  where
    go : (length (in_turn xs).0 ≡ length (in_turn xs).1) ⊎ (length (in_turn xs).0 ≡ length (in_turn xs).1 + 1) → (first, second ++ x ∷ []) ≡ in_turn (xs ++ x ∷ [])
    go (inl even) = absurd (other (ap (λ (h : List (List Edit) × List (List Edit)). length h.0) hands ∙ (even ∙ sym (ap (λ (h : List (List Edit) × List (List Edit)). length h.1) hands))))
    go (inr odd) = sym ((next xs x).1 odd ∙ ap (λ (h : List (List Edit) × List (List Edit)). (h.0, h.1 ++ x ∷ [])) (sym hands))

-- none is left out
dealt : (xs : List (List Edit)) → length (in_turn xs).0 + length (in_turn xs).1 ≡ length xs
dealt [] = refl
dealt (x ∷ xs) = let rest = dealt xs in omega arith

pub all_dealt : (xs first second : List (List Edit)) → (first, second) ≡ in_turn xs → length first + length second ≡ length xs
all_dealt xs first second hands = ap (λ (h : List (List Edit) × List (List Edit)). length h.0 + length h.1) hands ∙ dealt xs
