-- The next change of a wave.
use Rattle.std.proofs.Common.{◌≡◌, ◌<◌, ◌≤◌, ◌∙◌, sym, ap, subst, refl, Bool, true, false, not, ℕ, suc, ◌-◌, nat_lt, List, Some, None, arith, ⊎_elim, IfSome, nat_le, ◌&&◌}
use Rattle.std.proofs.lemmas.Bool.{cases_lt, and_parts}
use Rattle.std.proofs.lemmas.Bool.Decides.{nat_tests}
use Rattle.fourstate.specs.declared.value.Value.{Value}
use Rattle.fourstate.specs.kept.ValueLaws.{same_self}
use Rattle.fourstate.specs.Values.{same_value}
use Rattle.catalog.proofs.ListLemmas.{find_passes}
use Rattle.waveform.specs.Changes.{wave_changes_below}
use Rattle.waveform.specs.Entries.{standing}
use Rattle.waveform.specs.Timelines.{first_after}
use Rattle.waveform.specs.kept.Timelines.{IsAlwaysSettled}

-- `waveform::laws::drift_between`
abbrev pub StandsBetween : Type 0
StandsBetween =
    (f : ℕ → Value) → IsAlwaysSettled standing f → (n t k u : ℕ) → t ≤ k → k < u → u ≤ suc n →
    IfSome (first_after (wave_changes_below f (suc n)) t) (λ e. u ≤ e.0) → f k ≡ standing (f t) k

-- the first entry after a moment lies after it
pub found_after : {A : Type 0} (es : List (ℕ × A)) (t : ℕ) (e : ℕ × A) → first_after es t ≡ Some e → t < e.0
found_after {A} es t e is = let on = find_passes (λ (q : ℕ × A). nat_lt t q.0) es e is in grind (arith, nat_tests)

module _ (law : StandsBetween) (f : ℕ → Value) (n t : ℕ) where
  -- the function has another value at u than before
  abbrev moves : ℕ → Bool
  moves u = nat_le u n && not (same_value (f u) (f (u - 1)))

  stays : (u : ℕ) → t < u → u ≤ n → IfSome (first_after (wave_changes_below f (suc n)) t) (λ e. suc u ≤ e.0) → same_value (f u) (f (u - 1)) ≡ true
  stays u later within none =
      let now : f u ≡ f t = law f (λ _. refl) n t u (suc u) (omega arith) (omega arith) (omega arith) none in
      let before : f (u - 1) ≡ f t = law f (λ _. refl) n t (u - 1) (suc u) (omega arith) (omega arith) (omega arith) none in
      ap (λ (v : Value). same_value v (f (u - 1))) (now ∙ sym before) ∙ same_self (f (u - 1))

  not_missed : (u : ℕ) → t < u → IfSome (first_after (wave_changes_below f (suc n)) t) (λ e. suc u ≤ e.0) → moves u ≡ true → ⊥
  not_missed u later none moved =
      let parts = and_parts (nat_le u n) (not (same_value (f u) (f (u - 1)))) moved in
      let low : nat_le u n ≡ true = parts.0 in
      let within : u ≤ n = grind (arith, nat_tests) in
      let never : true ≡ false = sym parts.1 ∙ ap not (stays u later within none) in cc

  -- a function does not change after t and before its next entry
  pub change_first : (e : ℕ × Value) → first_after (wave_changes_below f (suc n)) t ≡ Some e → (u : ℕ) → t < u → moves u ≡ true → e.0 ≤ u
  change_first e is u later moved =
      ⊎_elim (λ low. absurd (not_missed u later (subst (λ o. IfSome o (λ e. suc u ≤ e.0)) (sym is) (let le : suc u ≤ e.0 = omega arith in le)) moved)) (λ le. le) (cases_lt u e.0)

  -- nor after its last one
  pub change_never : first_after (wave_changes_below f (suc n)) t ≡ None → (u : ℕ) → t < u → moves u ≡ true → ⊥
  change_never is u later moved = not_missed u later (subst (λ o. IfSome o (λ e. suc u ≤ e.0)) (sym is) tt) moved
