-- The first moment at which a test holds.
use Rattle.std.proofs.Common.{◌≡◌, ◌<◌, ℕ, zero, suc, [], ◌∷◌, Bool, true, false, Some, None, refl, arith, sym, ◌∙◌, subst, inl, inr, ◌⊎◌}
use Rattle.std.specs.List.{find}
use Rattle.std.proofs.lemmas.List.Folds.{find-append}
use Rattle.waveform.specs.Timelines.{moments}

-- the test of one element
single_yes : (p : ℕ → Bool) (n : ℕ) → p n ≡ true → find p (n ∷ []) ≡ Some n
single_yes p n e = rw e refl

single_no : (p : ℕ → Bool) (n : ℕ) → p n ≡ false → find p (n ∷ []) ≡ None
single_no p n e = rw e refl

-- no moment passes
pub find_none : (p : ℕ → Bool) (n : ℕ) → ((t : ℕ) → t < n → p t ≡ false) → find p (moments n) ≡ None
find_none p zero fails = refl
find_none p (suc n) fails =
    let before : find p (moments n) ≡ None = find_none p n (λ t lt. fails t (omega arith)) in
    let here : find p (n ∷ []) ≡ None = single_no p n (fails n (omega arith)) in
    find-append p (moments n) (n ∷ []) ∙ rw (before, here) refl

at_or_before : (m n : ℕ) → m < suc n → (m < n) ⊎ (m ≡ n)
at_or_before m n lt = grind arith

-- the first moment that passes
pub find_first : (p : ℕ → Bool) (n m : ℕ) → m < n → p m ≡ true → ((t : ℕ) → t < m → p t ≡ false) → find p (moments n) ≡ Some m
find_first p zero m lt holds fails = absurd (omega arith)
find_first p (suc n) m lt holds fails =
    find-append p (moments n) (n ∷ [])
    ∙ elim (at_or_before m n lt) [
      | inl low ↦ rw (find_first p n m low holds fails) refl
      | inr at ↦
          let none : find p (moments n) ≡ None = find_none p n (λ t below. fails t (omega arith)) in
          let here : find p (n ∷ []) ≡ Some n = single_yes p n (subst (λ (k : ℕ). p k ≡ true) at holds) in
          rw (none, here, at) refl
    ]

-- two tests that agree at the moments
pub find_agree : (p q : ℕ → Bool) (n : ℕ) → ((t : ℕ) → t < n → p t ≡ q t) → find p (moments n) ≡ find q (moments n)
find_agree p q zero same = refl
find_agree p q (suc n) same =
    let before : find p (moments n) ≡ find q (moments n) = find_agree p q n (λ t lt. same t (omega arith)) in
    let here : find p (n ∷ []) ≡ find q (n ∷ []) = rw (same n (omega arith)) refl in
    find-append p (moments n) (n ∷ []) ∙ rw (before, here) refl ∙ sym (find-append q (moments n) (n ∷ []))

-- what is found is one of the moments
pub find_within : (p : ℕ → Bool) (n m : ℕ) → find p (moments n) ≡ Some m → m < n
find_within p zero m found = absurd (cc)
find_within p (suc n) m found =
    elim (find p (moments n)) as (λ o. find p (moments n) ≡ o → m < suc n) [
      | None ↦ λ h.
          elim (p n) as (λ b. p n ≡ b → m < suc n) [
            | true ↦ λ at. let same : n ≡ m = (let here = single_yes p n at in let all = find-append p (moments n) (n ∷ []) in let last = rw (h, here) at all in cc) in omega arith
            | false ↦ λ at. absurd (let here = single_no p n at in let all = find-append p (moments n) (n ∷ []) in let last = rw (h, here) at all in cc)
          ] refl
      | Some k ↦ λ h.
          let same : k ≡ m = (let all = find-append p (moments n) (n ∷ []) in let first = rw h at all in cc) in
          let low = find_within p n k h in
          omega arith
    ] refl
