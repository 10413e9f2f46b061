-- A function of time that has the values of another one for a while.
use Rattle.std.proofs.Common.{◌≡◌, ℕ, zero, suc, ◌<◌, ◌≤◌, ◌∙◌, sym, ap, Bool, not, cond, None, List, [], ◌∷◌, ◌++◌, refl, arith, nat_lt, ⊎_elim}
use Rattle.std.specs.List.{last_or, All}
use Rattle.std.specs.Option.{option_map_or}
use Rattle.std.proofs.lemmas.Bool.{cases_lt, cond-true, cond-false, lt-ltb, le-ltb}
use Rattle.std.proofs.lemmas.List.Elements.{All-weaker}
use Rattle.waveform.proofs.Drifts.{Drifts}
use Rattle.waveform.specs.kept.Joins.{joined}
use Rattle.waveform.specs.Timelines.{is_change, changes_below, entries_until, value_by}
use Rattle.waveform.specs.kept.Timelines.{IsTimeline}
use Rattle.waveform.proofs.Functions.{one_more, changes_early, changes_last, changes_end, changes_in_turn, changes_are_timeline, value_at_is, kept}
use Rattle.waveform.proofs.Joins.{joined_timeline, joined_value}
use Rattle.waveform.proofs.Turns.{all_until}
use Rattle.waveform.proofs.Unique.{same_timeline}

module _ {A : Type 0} {same : A → A → Bool} {drift : A → ℕ → A} (drifts : Drifts same drift) where
  same_change : (f g : ℕ → A) (n : ℕ) → ((m : ℕ) → m < suc n → f m ≡ g m) → is_change same drift f n ≡ is_change same drift g n
  same_change f g zero alike = refl
  same_change f g (suc n) alike =
      ap (λ (v : A). not (same v (drift (f n) (suc n)))) (alike (suc n) (omega arith))
      ∙ ap (λ (v : A). not (same (g (suc n)) (drift v (suc n)))) (alike n (omega arith))

  -- functions that have the same values have the same changes
  pub equal_changes : (f g : ℕ → A) (n : ℕ) → ((m : ℕ) → m < n → f m ≡ g m) → changes_below same drift f n ≡ changes_below same drift g n
  equal_changes f g zero alike = refl
  equal_changes f g (suc n) alike =
      one_more drifts f n
      ∙ ap (λ (cs : List (ℕ × A)). cs ++ cond (is_change same drift f n) ((n, f n) ∷ []) []) (equal_changes f g n (λ m h. alike m (omega arith)))
      ∙ ap (λ (b : Bool). changes_below same drift g n ++ cond b ((n, f n) ∷ []) []) (same_change f g n alike)
      ∙ ap (λ (v : A). changes_below same drift g n ++ cond (is_change same drift g n) ((n, v) ∷ []) []) (alike n (omega arith))
      ∙ sym (one_more drifts g n)

  -- the changes up to a moment of a function that has the same values so far
  pub forked_is : (f g : ℕ → A) (t h : ℕ) → t < h → ((m : ℕ) → m < suc t → f m ≡ g m) →
      entries_until (changes_below same drift g h) t ≡ changes_below same drift f (suc t)
  forked_is f g t h below alike = kept drifts g t h below ∙ sym (equal_changes f g (suc t) alike)

  module _ (start : A) (f : ℕ → A) (settled : (t : ℕ) → drift (f t) t ≡ f t) where
    -- after the last moment of its changes the function drifts
    pub value_past : (m t : ℕ) → m ≤ t → value_by drift start (changes_below same drift f (suc m)) t ≡ drift (f m) t
    value_past m t le =
        let xs = changes_below same drift f (suc m) in
        let last = changes_last drifts f settled m in
        let below : last.0.0 < suc m = last.2.0 in
        let early : All (λ e. e.0 ≤ t) xs = All-weaker (λ e. e.0 < suc m) (λ e. e.0 ≤ t) (λ e h. omega arith) xs (changes_early drifts f (suc m)) in
        ap (λ zs. option_map_or (λ e. drift e.1 t) (last_or None zs) start) (all_until same drift t xs early)
        ∙ ap (λ o. option_map_or (λ e. drift e.1 t) o start) last.1
        ∙ sym (drifts.drift_twice last.0.1 m t le)
        ∙ ap (λ a. drift a t) last.2.1

    -- a timeline that has the function's values up to m, and drifts from there on, is that of its changes
    pub unique : (xs : List (ℕ × A)) (m : ℕ) → IsTimeline same drift xs → ((t : ℕ) → t < suc m → value_by drift start xs t ≡ f t) →
        ((t : ℕ) → m ≤ t → value_by drift start xs t ≡ drift (f m) t) → xs ≡ changes_below same drift f (suc m)
    unique xs m timeline inside past =
        same_timeline drifts start xs (changes_below same drift f (suc m)) timeline (changes_are_timeline drifts f settled m)
        (λ t. ⊎_elim
        (λ before. inside t before ∙ sym (value_at_is drifts f settled start t (suc m) before))
        (λ after. past t (omega arith) ∙ sym (value_past m t (omega arith)))
        (cases_lt t (suc m)))

  -- the changes below n, and from n up to m those of a function that has the same values there
  module _ (start : A) (f g : ℕ → A) (mine : (t : ℕ) → drift (f t) t ≡ f t) (theirs : (t : ℕ) → drift (g t) t ≡ g t) where
    pub followed_is : (n m h : ℕ) → n ≤ m → m < h → ((u : ℕ) → n ≤ u → u < suc m → f u ≡ g u) →
        joined same drift start (changes_below same drift f n) n (entries_until (changes_below same drift g h) m) ≡ changes_below same drift f (suc m)
    followed_is n m h order below alike =
        let xs = changes_below same drift f n in
        let ys = changes_below same drift g (suc m) in
        let timeline : IsTimeline same drift ys = changes_are_timeline drifts g theirs m in
        let room = changes_end drifts f mine n in
        let early = changes_early drifts f n in
        let made = joined_timeline drifts start xs ys n room (changes_in_turn drifts f mine n) timeline in
        let value = joined_value drifts start xs ys n room early timeline in
        ap (λ zs. joined same drift start xs n zs) (kept drifts g m h below)
        ∙ unique start f mine (joined same drift start xs n ys) m made
        (λ t low. value t ∙ ⊎_elim
        (λ before. cond-true (nat_lt t n) (value_by drift start xs t) (value_by drift start ys t) (lt-ltb t n before) ∙ value_at_is drifts f mine start t n before)
        (λ after. cond-false (nat_lt t n) (value_by drift start xs t) (value_by drift start ys t) (le-ltb t n after) ∙ value_at_is drifts g theirs start t (suc m) low ∙ sym (alike t after low))
        (cases_lt t n))
        (λ t past. value t
        ∙ cond-false (nat_lt t n) (value_by drift start xs t) (value_by drift start ys t) (le-ltb t n (omega arith))
        ∙ value_past start g theirs m t past
        ∙ ap (λ a. drift a t) (sym (alike m order (omega arith))))
