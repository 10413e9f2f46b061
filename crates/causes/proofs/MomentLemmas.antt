-- Moments that pass a test.
use Rattle.std.proofs.Common.{◌≡◌, ◌<◌, ◌++◌, ℕ, zero, suc, Bool, true, false, not, List, [], ◌∷◌, refl, ◌∙◌, arith}
use Rattle.std.specs.List.{filter}
use Rattle.std.proofs.lemmas.List.Elements.{filter-append}
use Rattle.waveform.specs.Timelines.{moments}

-- Tests.

pub is_off : (b : Bool) → not b ≡ true → b ≡ false
is_off true off = cc
is_off false off = refl

pub not_on : (b : Bool) → b ≡ false → b ≡ true → ⊥
not_on true off on = cc
not_on false off on = cc

pub not_both : (b : Bool) → b ≡ true → not b ≡ true → ⊥
not_both true on off = cc
not_both false on off = cc

-- The moments that pass a test.

pub none_pass : (p : ℕ → Bool) (n : ℕ) → ((u : ℕ) → u < n → p u ≡ false) → filter p (moments n) ≡ []
none_pass p zero none = refl
none_pass p (suc n) none =
    let here = none n (omega arith) in
    let before = none_pass p n (λ u lt. none u (omega arith)) in
    filter-append p (moments n) (n ∷ []) ∙ rw (before, here) refl

pub one_passes : (p : ℕ → Bool) (k n : ℕ) → k < n → p k ≡ true → ((u : ℕ) → p u ≡ true → u ≡ k) → filter p (moments n) ≡ k ∷ []
one_passes p k zero lt is only = absurd (omega arith)
one_passes p k (suc n) lt is only =
    elim (p n) as (λ b. p n ≡ b → filter p (moments (suc n)) ≡ k ∷ []) [
      | true ↦ λ h.
          let same : n ≡ k = only n h in
          let none : filter p (moments n) ≡ [] = none_pass p n (λ u low. elim (p u) as (λ b. p u ≡ b → p u ≡ false) [
            | true ↦ λ yes. let at : u ≡ k = only u yes in absurd (omega arith)
            | false ↦ λ no. no
          ] refl) in
          filter-append p (moments n) (n ∷ []) ∙ rw (none, h, same) refl
      | false ↦ λ h.
          let apart : n ≡ k → ⊥ = λ same. let at : p n ≡ true = rw same is in cc in
          let low : k < n = omega (arith, apart) in
          let before = one_passes p k n low is only in
          filter-append p (moments n) (n ∷ []) ∙ rw (before, h) refl
    ] refl
