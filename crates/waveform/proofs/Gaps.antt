-- Up to the next entry, and after the last one.
use Rattle.std.proofs.Common.{◌≡◌, ℕ, suc, ◌<◌, ◌≤◌, ◌∙◌, sym, ap, Bool, true, false, cond, Option, Some, None, List, [], ◌∷◌, refl, arith, nat_le, nat_lt}
use Rattle.std.specs.Prelude.{IfSome}
use Rattle.std.specs.List.{last_or, All}
use Rattle.std.specs.Option.{option_map_or}
use Rattle.std.proofs.lemmas.Bool.{lt-leb, le-leb, ltb-true, ltb-false}
use Rattle.std.proofs.lemmas.List.Elements.{All-weaker}
use Rattle.waveform.proofs.Drifts.{Drifts}
use Rattle.waveform.specs.Timelines.{changes_below, entries_until, first_after, value_by}
use Rattle.waveform.specs.kept.Timelines.{IsAlwaysSettled, IsTimeline, AreInTurn}
use Rattle.waveform.proofs.Follows.{unique}
use Rattle.waveform.proofs.Functions.{changes_are_timeline, value_at_is}
use Rattle.waveform.proofs.Joins.{at_moment, value_settled}
use Rattle.waveform.proofs.Lists.{taken, left_out}
use Rattle.waveform.proofs.Turns.{all_until, none_until, turns_later}

module _ {A : Type 0} (same : A → A → Bool) (drift : A → ℕ → A) where
  until_by : (x : ℕ × A) (xs : List (ℕ × A)) (r m u : ℕ) → r ≤ m → m < u → AreInTurn same drift (Some x) xs → (b : Bool) → nat_lt r x.0 ≡ b →
      IfSome (cond {A = Option (ℕ × A)} b (Some x) (first_after xs r)) (λ e. u ≤ e.0) →
      (IfSome (first_after xs r) (λ e. u ≤ e.0) → entries_until xs m ≡ entries_until xs r) →
      entries_until (x ∷ xs) m ≡ entries_until (x ∷ xs) r
  until_by x xs r m u order low turns true after next rest =
      let here : u ≤ x.0 = next in
      let later : All (λ e. x.0 < e.0) xs = turns_later same drift x xs turns in
      let before : r < x.0 = ltb-true r x.0 after in
      left_out (λ e. nat_le e.0 m) x xs (lt-leb x.0 m (omega arith))
      ∙ none_until same drift m xs (All-weaker (λ e. x.0 < e.0) (λ e. m < e.0) (λ e h. omega arith) xs later)
      ∙ sym (none_until same drift r xs (All-weaker (λ e. x.0 < e.0) (λ e. r < e.0) (λ e h. omega arith) xs later))
      ∙ sym (left_out (λ e. nat_le e.0 r) x xs (lt-leb x.0 r before))
  until_by x xs r m u order low turns false until next rest =
      let past : x.0 ≤ r = ltb-false r x.0 until in
      taken (λ e. nat_le e.0 m) x xs (le-leb x.0 m (omega arith))
      ∙ ap (λ (ys : List (ℕ × A)). x ∷ ys) (rest next)
      ∙ sym (taken (λ e. nat_le e.0 r) x xs (le-leb x.0 r past))

  -- up to the next entry the entries so far are the same
  pub until_same : (before : Option (ℕ × A)) (xs : List (ℕ × A)) (r m u : ℕ) → r ≤ m → m < u → AreInTurn same drift before xs →
      IfSome (first_after xs r) (λ e. u ≤ e.0) → entries_until xs m ≡ entries_until xs r
  until_same before [] r m u order low turns next = refl
  until_same before (x ∷ xs) r m u order low turns next =
      until_by x xs r m u order low turns.2 (nat_lt r x.0) refl next
      (λ later. until_same (Some x) xs r m u order low turns.2 later)

module _ {A : Type 0} {same : A → A → Bool} {drift : A → ℕ → A} (drifts : Drifts same drift) (start : A) (xs : List (ℕ × A)) (timeline : IsTimeline same drift xs) where
  -- where no entry is added the value drifts
  value_drifts : (r m : ℕ) → r ≤ m → entries_until xs m ≡ entries_until xs r → value_by drift start xs m ≡ drift (value_by drift start xs r) m
  value_drifts r m order stay =
      let entry = at_moment drifts start xs r timeline in
      ap (λ zs. option_map_or (λ e. drift e.1 m) (last_or None zs) start) stay
      ∙ ap (λ o. option_map_or (λ e. drift e.1 m) o start) entry.1
      ∙ sym (drifts.drift_twice entry.0.1 r m order)
      ∙ ap (λ a. drift a m) (sym entry.2.1)

  -- up to the next entry the value drifts
  pub value_between : (r m u : ℕ) → r ≤ m → m < u → IfSome (first_after xs r) (λ e. u ≤ e.0) → value_by drift start xs m ≡ drift (value_by drift start xs r) m
  value_between r m u order low next = value_drifts r m order (until_same same drift None xs r m u order low timeline.in_turn next)

  -- a timeline whose entries lie at t or before is that of the changes of its own function
  pub own_changes : (t : ℕ) → All (λ e. e.0 ≤ t) xs → xs ≡ changes_below same drift (value_by drift start xs) (suc t)
  own_changes t early =
      let whole : (m : ℕ) → t ≤ m → entries_until xs m ≡ xs = λ m past.
      all_until same drift m xs (All-weaker (λ e. e.0 ≤ t) (λ e. e.0 ≤ m) (λ e h. omega arith) xs early) in
      unique drifts start (value_by drift start xs) (λ m. value_settled drifts start xs m timeline) xs t timeline (λ m low. refl)
      (λ m past. value_drifts t m past (whole m past ∙ sym (whole t (omega arith))))

module _ {A : Type 0} {same : A → A → Bool} {drift : A → ℕ → A} (drifts : Drifts same drift) (start : A) (f : ℕ → A) (settled : IsAlwaysSettled drift f) where
  -- up to its next change a function drifts
  pub drifts_between : (n t k u : ℕ) → t ≤ k → k < u → u ≤ suc n → IfSome (first_after (changes_below same drift f (suc n)) t) (λ e. u ≤ e.0) → f k ≡ drift (f t) k
  drifts_between n t k u order low within next =
      let xs = changes_below same drift f (suc n) in
      sym (value_at_is drifts f settled start k (suc n) (omega arith))
      ∙ value_between drifts start xs (changes_are_timeline drifts f settled n) t k u order low next
      ∙ ap (λ a. drift a k) (value_at_is drifts f settled start t (suc n) (omega arith))
