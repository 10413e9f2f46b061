-- The changes of a function of time are the function.
use Rattle.std.proofs.Common.{◌≡◌, ℕ, zero, suc, ◌<◌, ◌≤◌, ◌-◌, ◌∙◌, sym, ap, subst, Bool, true, false, not, cond, Some, None, MatchOption, List, [], ◌∷◌, ◌++◌, map, refl, arith, nat_lt, ⊎_elim}
use Rattle.std.specs.List.{filter, last_or, All}
use Rattle.std.specs.Option.{option_map_or}
use Rattle.std.proofs.lemmas.Bool.{cases_lt, cond-true, cond-false, lt-ltb, le-ltb, not-false}
use Rattle.std.proofs.lemmas.List.{append-nil, map-append}
use Rattle.std.proofs.lemmas.List.Elements.{All-nil, All-cons, All-append, All-weaker, filter-append}
use Rattle.waveform.proofs.Drifts.{Drifts}
use Rattle.waveform.specs.Timelines.{moments, is_change, changes_below, entries_until, value_by}
use Rattle.waveform.specs.kept.Timelines.{IsTimeline, AreInTurn, is_reached, pushed}
use Rattle.waveform.proofs.Lists.{last_or-append, some_entry}
use Rattle.waveform.proofs.Turns.{all_until}
use Rattle.waveform.proofs.Pushes.{EndsBefore, until_before, pushed_turns, pushed_value}

module _ {A : Type 0} {same : A → A → Bool} {drift : A → ℕ → A} (drifts : Drifts same drift) (f : ℕ → A) where
  -- the change at n, if there is one
  abbrev change_at : ℕ → Bool → List (ℕ × A)
  change_at n b = cond b ((n, f n) ∷ []) []

  one_moment : (n : ℕ) (b : Bool) → map (λ t. (t, f t)) (cond b (n ∷ []) []) ≡ change_at n b
  one_moment n true = refl
  one_moment n false = refl

  -- the changes below n + 1 are those below n and the one at n
  pub one_more : (n : ℕ) → changes_below same drift f (suc n) ≡ changes_below same drift f n ++ change_at n (is_change same drift f n)
  one_more n =
      ap (map (λ t. (t, f t))) (filter-append (is_change same drift f) (moments n) (n ∷ []))
      ∙ map-append (λ t. (t, f t)) (filter (is_change same drift f) (moments n)) (filter (is_change same drift f) (n ∷ []))
      ∙ ap (λ ys. changes_below same drift f n ++ ys) (one_moment n (is_change same drift f n))

  -- where no moment from t on changes, the changes stay
  pub same_changes : (t u : ℕ) → t ≤ u → ((k : ℕ) → t ≤ k → k < u → is_change same drift f k ≡ false) → changes_below same drift f u ≡ changes_below same drift f t
  same_changes t zero le still = let here : 0 ≡ t = omega arith in ap (changes_below same drift f) here
  same_changes t (suc u) le still =
      ⊎_elim
      (λ before.
      let here : t ≤ u = omega arith in
      one_more u ∙ ap (λ b. changes_below same drift f u ++ change_at u b) (still u here (omega arith)) ∙ append-nil (changes_below same drift f u)
      ∙ same_changes t u here (λ k from below. still k from (omega arith)))
      (λ after. let here : suc u ≡ t = omega arith in ap (changes_below same drift f) here)
      (cases_lt t (suc u))

  -- nor does the moment after t add one, if the value merely drifts there
  pub none_added : (t : ℕ) → f (suc t) ≡ drift (f t) (suc t) → changes_below same drift f (suc (suc t)) ≡ changes_below same drift f (suc t)
  none_added t drifted =
      let still : is_change same drift f (suc t) ≡ false =
      ap (λ a. not (same (f (suc t)) a)) (sym drifted) ∙ ap not (drifts.equal_is_same (f (suc t))) in
      one_more (suc t) ∙ ap (λ b. changes_below same drift f (suc t) ++ change_at (suc t) b) still ∙ append-nil (changes_below same drift f (suc t))

  change_all : (P : ℕ × A → Type 0) (n : ℕ) (b : Bool) → P (n, f n) → All P (change_at n b)
  change_all P n true one = All-cons P (n, f n) [] one (All-nil P)
  change_all P n false one = All-nil P

  -- the changes below n lie below n
  pub changes_early : (n : ℕ) → All (λ e. e.0 < n) (changes_below same drift f n)
  changes_early zero = All-nil (λ e. e.0 < 0)
  changes_early (suc n) =
      subst (All (λ e. e.0 < suc n)) (sym (one_more n))
      (All-append (λ e. e.0 < suc n) (changes_below same drift f n) (change_at n (is_change same drift f n))
      (All-weaker (λ e. e.0 < n) (λ e. e.0 < suc n) (λ e h. omega arith) (changes_below same drift f n) (changes_early n))
      (change_all (λ e. e.0 < suc n) n (is_change same drift f n) (omega arith)))

  module _ (settled : (t : ℕ) → drift (f t) t ≡ f t) where
    last_with : (m : ℕ) (b : Bool) → not (same (f (suc m)) (drift (f m) (suc m))) ≡ b →
        ((d : ℕ × A) × (last_or None (changes_below same drift f (suc m)) ≡ Some d) × ((d.0 < suc m) × (drift d.1 m ≡ f m))) →
        (d : ℕ × A) × (last_or None (changes_below same drift f (suc m) ++ change_at (suc m) b) ≡ Some d) × ((d.0 < suc (suc m)) × (drift d.1 (suc m) ≡ f (suc m)))
    last_with m true e last =
        ((suc m, f (suc m)), last_or-append None (changes_below same drift f (suc m)) ((suc m, f (suc m)) ∷ []), (omega arith, settled (suc m)))
    last_with m false e last =
        let d : ℕ × A = last.0 in
        let kept : f (suc m) ≡ drift (f m) (suc m) = drifts.same_is_equal (f (suc m)) (drift (f m) (suc m)) (not-false (same (f (suc m)) (drift (f m) (suc m))) e) in
        let below : d.0 < suc m = last.2.0 in (
          d,
          last_or-append None (changes_below same drift f (suc m)) [] ∙ last.1,
          (
            omega arith,
            sym (drifts.drift_twice d.1 m (suc m) (omega arith)) ∙ ap (λ a. drift a (suc m)) last.2.1 ∙ sym kept,
          ),
        )

    -- the last change below m + 1 has become the value at m
    pub changes_last : (m : ℕ) →
        (d : ℕ × A) × (last_or None (changes_below same drift f (suc m)) ≡ Some d) × ((d.0 < suc m) × (drift d.1 m ≡ f m))
    changes_last zero = ((0, f 0), refl, (omega arith, settled 0))
    changes_last (suc m) =
        let P : List (ℕ × A) → Type 0 = λ xs. (d : ℕ × A) × (last_or None xs ≡ Some d) × ((d.0 < suc (suc m)) × (drift d.1 (suc m) ≡ f (suc m))) in
        subst P (sym (one_more (suc m))) (last_with m (is_change same drift f (suc m)) refl (changes_last m))

    -- the last change below m + 1 has become the value at m, drifted
    reached_is : (m : ℕ) (v : A) → is_reached same drift (changes_below same drift f (suc m)) (suc m) v ≡ same v (drift (f m) (suc m))
    reached_is m v =
        let last = changes_last m in
        let d : ℕ × A = last.0 in
        let below : d.0 < suc m = last.2.0 in
        let moved : drift d.1 (suc m) ≡ drift (f m) (suc m) =
        sym (drifts.drift_twice d.1 m (suc m) (omega arith)) ∙ ap (λ a. drift a (suc m)) last.2.1 in
        ap (λ o. option_map_or (λ e. same v (drift e.1 (suc m))) o false) last.1 ∙ ap (same v) moved

    pub reached_from : (t : ℕ) → 0 < t → (v : A) → is_reached same drift (changes_below same drift f t) t v ≡ same v (drift (f (t - 1)) t)
    reached_from zero begun v = absurd (omega arith)
    reached_from (suc m) begun v = let one : suc m - 1 ≡ m = omega arith in rw one (reached_is m v)

    push_or_not : (m : ℕ) (b : Bool) (xs : List (ℕ × A)) → cond b xs (xs ++ (suc m, f (suc m)) ∷ []) ≡ xs ++ change_at (suc m) (not b)
    push_or_not m true xs = sym (append-nil xs)
    push_or_not m false xs = refl

    -- the changes below n with the value at n pushed are the changes below n + 1
    pub pushed_is : (n : ℕ) → pushed same drift (changes_below same drift f n) n (f n) ≡ changes_below same drift f (suc n)
    pushed_is zero = refl
    pushed_is (suc m) =
        let xs : List (ℕ × A) = changes_below same drift f (suc m) in
        let reached : is_reached same drift xs (suc m) (f (suc m)) ≡ same (f (suc m)) (drift (f m) (suc m)) = reached_is m (f (suc m)) in
        ap (λ b. cond b xs (xs ++ (suc m, f (suc m)) ∷ [])) reached
        ∙ push_or_not m (same (f (suc m)) (drift (f m) (suc m))) xs
        ∙ sym (one_more (suc m))

    pub changes_end : (n : ℕ) → EndsBefore (changes_below same drift f n) n
    changes_end zero = refl
    changes_end (suc m) =
        let last = changes_last m in
        subst (λ o. MatchOption o (suc m ≡ 0) (λ d. d.0 < suc m)) (sym last.1) last.2.0

    -- the changes below n give the function's value at each moment below n
    pub value_at_is : (start : A) (t n : ℕ) → t < n → value_by drift start (changes_below same drift f n) t ≡ f t
    value_at_is start t zero below = absurd (omega arith)
    value_at_is start t (suc n) below =
        ap (λ xs. value_by drift start xs t) (sym (pushed_is n))
        ∙ pushed_value drifts start (changes_below same drift f n) n (f n) (changes_end n) (changes_early n) t
        ∙ ⊎_elim
        (λ before. cond-true (nat_lt t n) (value_by drift start (changes_below same drift f n) t) (drift (f n) t) (lt-ltb t n before) ∙ value_at_is start t n before)
        (λ after.
        let here : t ≡ n = omega arith in
        cond-false (nat_lt t n) (value_by drift start (changes_below same drift f n) t) (drift (f n) t) (le-ltb t n after) ∙ ap (λ u. drift (f u) t) (sym here) ∙ settled t)
        (cases_lt t n)

    pub changes_in_turn : (n : ℕ) → AreInTurn same drift None (changes_below same drift f n)
    changes_in_turn zero = tt
    changes_in_turn (suc n) =
        subst (λ xs. AreInTurn same drift None xs) (pushed_is n)
        (pushed_turns drifts (changes_below same drift f n) n (f n) (changes_end n) (changes_in_turn n) (settled n))

    -- the changes below n + 1 are a timeline
    pub changes_are_timeline : (n : ℕ) → IsTimeline same drift (changes_below same drift f (suc n))
    changes_are_timeline n = record { begins = some_entry (changes_below same drift f (suc n)) (changes_last n).0 (changes_last n).1; in_turn = changes_in_turn (suc n) }

  until_with : (n : ℕ) (t : ℕ) (b : Bool) → t < n → entries_until (changes_below same drift f n ++ change_at n b) t ≡ entries_until (changes_below same drift f n) t
  until_with n t true below = until_before (changes_below same drift f n) (n, f n) t below
  until_with n t false below = ap (λ xs. entries_until xs t) (append-nil (changes_below same drift f n))

  -- the changes below n, up to t, are the changes below t + 1
  pub kept : (t n : ℕ) → t < n → entries_until (changes_below same drift f n) t ≡ changes_below same drift f (suc t)
  kept t zero below = absurd (omega arith)
  kept t (suc n) below =
      ⊎_elim
      (λ before. ap (λ xs. entries_until xs t) (one_more n) ∙ until_with n t (is_change same drift f n) before ∙ kept t n before)
      (λ after.
      let here : n ≡ t = omega arith in
      all_until same drift t (changes_below same drift f (suc n))
      (All-weaker (λ e. e.0 < suc n) (λ e. e.0 ≤ t) (λ e h. omega arith) (changes_below same drift f (suc n)) (changes_early (suc n)))
      ∙ ap (λ m. changes_below same drift f (suc m)) here)
      (cases_lt t n)
