-- What is kept of a function of time beside a former one is the function.
use Rattle.std.proofs.Common.{◌≡◌, ℕ, suc, ◌-◌, ◌<◌, ◌≤◌, ◌∙◌, sym, ap, subst, Bool, Option, Some, None, List, refl, arith}
use Rattle.waveform.proofs.Drifts.{Drifts}
use Rattle.waveform.specs.kept.Joins.{joined}
use Rattle.waveform.specs.kept.Patches.{IsMended}
use Rattle.waveform.specs.Timelines.{changes_below, entries_until, value_by}
use Rattle.waveform.specs.kept.Timelines.{IsAlwaysSettled, pushed}
use Rattle.waveform.proofs.Follows.{forked_is, followed_is}
use Rattle.waveform.proofs.Functions.{pushed_is, value_at_is}

moment_before : (t : ℕ) → 0 < t → suc (t - 1) ≡ t
moment_before t some = omega arith

module _ {A : Type 0} {same : A → A → Bool} {drift : A → ℕ → A} (drifts : Drifts same drift) where
  module _ (start : A) (f g : ℕ → A) (mine : IsAlwaysSettled drift f) where
    -- a value more
    pub put_is : (line : List (ℕ × A)) (t : ℕ) (v : A) → line ≡ changes_below same drift f t → v ≡ f t → pushed same drift line t v ≡ changes_below same drift f (suc t)
    put_is line t v is now =
        ap (λ (xs : List (ℕ × A)). pushed same drift xs t v) is
        ∙ ap (λ (a : A). pushed same drift (changes_below same drift f t) t a) now
        ∙ pushed_is drifts f mine t

    -- the former function before t, and the value at t
    pub opened_is : (old : List (ℕ × A)) (t h : ℕ) (v : A) → 0 < t → old ≡ changes_below same drift g h → t ≤ h → ((u : ℕ) → u < t → f u ≡ g u) → v ≡ f t →
        pushed same drift (entries_until old (t - 1)) t v ≡ changes_below same drift f (suc t)
    opened_is old t h v some is within alike now =
        put_is (entries_until old (t - 1)) t v
        (ap (λ (xs : List (ℕ × A)). entries_until xs (t - 1)) is
        ∙ forked_is drifts f g (t - 1) h (omega arith) (λ m low. alike m (omega arith))
        ∙ ap (λ (n : ℕ). changes_below same drift f n) (moment_before t some))
        now

    -- where nothing is to be taken from the former function
    pub finished_is : (line : List (ℕ × A)) (since : Option ℕ) (t : ℕ) → ((s : ℕ) → since ≡ Some s → t ≤ s) →
        IsMended same drift g f line since t → line ≡ changes_below same drift f t
    finished_is line None t late mended = mended
    finished_is line (Some s) t late mended =
        let low : s ≤ t = mended.1 in
        let high : t ≤ s = late s refl in
        let here : s ≡ t = omega arith in
        mended.0 ∙ ap (λ (n : ℕ). changes_below same drift f n) here

    -- the value at a moment by the entries
    pub value_by_line : (line : List (ℕ × A)) (since : Option ℕ) (m n : ℕ) → ((s : ℕ) → since ≡ Some s → m < s) → m < n →
        IsMended same drift g f line since n → value_by drift start line m ≡ f m
    value_by_line line None m n before low mended =
        ap (λ (xs : List (ℕ × A)). value_by drift start xs m) mended ∙ value_at_is drifts f mine start m n low
    value_by_line line (Some s) m n before low mended =
        ap (λ (xs : List (ℕ × A)). value_by drift start xs m) mended.0 ∙ value_at_is drifts f mine start m s (before s refl)

    module _ (theirs : IsAlwaysSettled drift g) where
      -- the entries below s, and the former function from s on
      pub followed_until : (line old : List (ℕ × A)) (since : Option ℕ) (s t h : ℕ) → since ≡ Some s → s < t → old ≡ changes_below same drift g h → t ≤ h →
          IsMended same drift g f line since t → joined same drift start line s (entries_until old (t - 1)) ≡ changes_below same drift f t
      followed_until line old since s t h at before is within mended =
          let parts : IsMended same drift g f line (Some s) t = subst (λ o. IsMended same drift g f line o t) at mended in
          let back : suc (t - 1) ≡ t = moment_before t (omega arith) in
          ap (λ (xs : List (ℕ × A)). joined same drift start xs s (entries_until old (t - 1))) parts.0
          ∙ ap (λ (xs : List (ℕ × A)). joined same drift start (changes_below same drift f s) s (entries_until xs (t - 1))) is
          ∙ followed_is drifts start f g mine theirs s (t - 1) h (omega arith) (omega arith) (λ u low high. parts.2 u low (omega arith))
          ∙ ap (λ (n : ℕ). changes_below same drift f n) back

      -- the value at a moment by the former function
      pub value_by_old : (line old : List (ℕ × A)) (since : Option ℕ) (s m h n : ℕ) → since ≡ Some s → s ≤ m → old ≡ changes_below same drift g h → m < h → m < n →
          IsMended same drift g f line since n → value_by drift start old m ≡ f m
      value_by_old line old since s m h n at from is within low mended =
          let parts : IsMended same drift g f line (Some s) n = subst (λ o. IsMended same drift g f line o n) at mended in
          ap (λ (xs : List (ℕ × A)). value_by drift start xs m) is
          ∙ value_at_is drifts g theirs start m h within
          ∙ sym (parts.2 m from low)
