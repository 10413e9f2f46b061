-- A function of time that goes on by its changes.
use Rattle.std.proofs.Common.{◌≡◌, ◌<◌, ◌≤◌, ◌+◌, ◌-◌, ◌∙◌, ap, sym, refl, subst, cond, Bool, true, false, ℕ, zero, suc, List, [], ◌∷◌, Option, Some, None, All, take, drop, length, get_or, arith}
use Rattle.std.specs.List.{AllWithin, filter, last_or}
use Rattle.std.specs.List.Sorted.{IsNonDecreasingBy}
use Rattle.std.specs.Option.{option_map_or}
use Rattle.std.specs.Prelude.{nat_le, ◌==◌}
use Rattle.std.proofs.lemmas.Bool.{leb-false, leb-true, eqb-true, le-leb}
use Rattle.std.proofs.lemmas.Bool.Decides.{nat_tests}
use Rattle.std.proofs.lemmas.List.{map-id, get_or-drop, get_or-take, length-drop, length-take}
use Rattle.std.proofs.lemmas.List.Elements.{All-cons, All-head, All-nil, All-tail, All-weaker}
use Rattle.fourstate.specs.Values.{same_value}
use Rattle.fourstate.specs.declared.value.Value.{Value}
use Rattle.fourstate.specs.declared.value.Value.TheVariants.{Unknown}
use Rattle.gateline.specs.kept.Readers.{GoesOn, next_of, rest_then, value_then}
use Rattle.waveform.proofs.Places.{times_rise as stored_times_rise}
use Rattle.waveform.proofs.Turns.{none_until, turns_later}
use Rattle.waveform.specs.Changes.{wave_at}
use Rattle.waveform.specs.Entries.{standing}
use Rattle.waveform.specs.declared.times.TheConstants.{TIME_END}
use Rattle.waveform.specs.kept.Timelines.{AreInTurn, IsTimeline}

module _ (f : ℕ → Value) where
  -- it has the value at once
  pub here : (v : Value) (xs : List (ℕ × Value)) (m : ℕ) → GoesOn f v xs m → f m ≡ v
  here v [] m goes = goes m (omega arith)
  here v (e ∷ rest) m goes = goes.0 m (omega arith) goes.1

  -- and until the first change
  pub until : (v : Value) (xs : List (ℕ × Value)) (m u : ℕ) → GoesOn f v xs m → m ≤ u → u < next_of xs → f u ≡ v
  until v [] m u goes from below = goes u from
  until v (e ∷ rest) m u goes from below = goes.0 u from below

  -- up to which it goes on so
  pub later : (v : Value) (xs : List (ℕ × Value)) (m r : ℕ) → GoesOn f v xs m → m ≤ r → r < next_of xs → GoesOn f v xs r
  later v [] m r goes from below = λ u high. goes u (omega arith)
  later v (e ∷ rest) m r goes from below = (λ u high low. goes.0 u (omega arith) low, below, goes.2)

  -- at a moment up to the first change it goes on by what is left
  pub passed : (v : Value) (xs : List (ℕ × Value)) (m t : ℕ) → GoesOn f v xs m → m ≤ t → t ≤ next_of xs → GoesOn f (value_then v xs t) (rest_then xs t) t
  passed v [] m t goes from to = λ u high. goes u (omega arith)
  passed v (e ∷ rest) m t goes from to = either (e.0 == t) refl
    where
      either : (b : Bool) → (e.0 == t) ≡ b → GoesOn f (cond b e.1 v) (cond b rest (e ∷ rest)) t
      either true is = subst (λ n. GoesOn f e.1 rest n) (eqb-true e.0 t is) goes.2
      either false is = (λ u high low. goes.0 u (omega arith) low, grind (arith, nat_tests), goes.2)

  -- its first change comes later
  pub coming : (v : Value) (xs : List (ℕ × Value)) (m : ℕ) → GoesOn f v xs m → m < TIME_END → m < next_of xs
  coming v [] m goes low = low
  coming v (e ∷ rest) m goes low = goes.1

-- a function that is the same from m on goes on as the other one
pub goes_same : (f g : ℕ → Value) (v : Value) (xs : List (ℕ × Value)) (m : ℕ) → ((u : ℕ) → m ≤ u → f u ≡ g u) → GoesOn g v xs m → GoesOn f v xs m
goes_same f g v [] m same goes = λ u high. same u high ∙ goes u high
goes_same f g v (e ∷ rest) m same goes = (
  λ u high low. same u high ∙ goes.0 u high low,
  goes.1,
  goes_same f g e.1 rest e.0 (λ u high. let later : m < e.0 = goes.1 in same u (omega arith)) goes.2,
)

-- the value at u by the changes behind the change d
abbrev by : ℕ × Value → List (ℕ × Value) → ℕ → Value
by d xs u = option_map_or (λ e. e.1) (last_or (Some d) (filter (λ e. nat_le e.0 u) xs)) Unknown

-- the change behind which they are, where it lies at u or before
by_next : (o : Option (ℕ × Value)) (d : ℕ × Value) (xs : List (ℕ × Value)) (u : ℕ) → d.0 ≤ u →
    option_map_or (λ e. e.1) (last_or o (filter (λ e. nat_le e.0 u) (d ∷ xs))) Unknown ≡ by d xs u
by_next o d xs u low = rw (le-leb d.0 u low) refl

goes_by : (d : ℕ × Value) (xs : List (ℕ × Value)) → AreInTurn same_value standing (Some d) xs → GoesOn (by d xs) d.1 xs d.0
goes_by d [] turns = λ u high. refl
goes_by d (x ∷ xs) turns = (
  λ u high low.
      let later = All-weaker (λ (e : ℕ × Value). x.0 < e.0) (λ e. u < e.0) (λ e h. omega arith) xs (turns_later same_value standing x xs turns.2) in
      let none = none_until same_value standing u (x ∷ xs) (All-cons (λ (e : ℕ × Value). u < e.0) x xs low later) in
      ap (λ (es : List (ℕ × Value)). option_map_or (λ e. e.1) (last_or (Some d) es) Unknown) none,
  turns.1.0,
  goes_same (by d (x ∷ xs)) (by x xs) x.1 xs x.0
      (λ u high. by_next (Some d) x xs u high)
      (goes_by x xs turns.2),
)

-- the times of a wave's changes rise
pub times_rise : (xs : List (ℕ × Value)) → IsTimeline same_value standing xs → IsNonDecreasingBy (λ e. e.0) xs
times_rise xs timeline = stored_times_rise (λ e. e) same_value standing None xs (subst (AreInTurn same_value standing None) (sym (map-id xs)) timeline.in_turn)

-- so one at least lies at t or before
pub some_until : (t : ℕ) (xs : List (ℕ × Value)) (n : ℕ) → IsTimeline same_value standing xs → All (λ e. t < e.0) (drop n xs) → 0 < n
some_until t xs (suc n) timeline after = omega arith
some_until t [] zero timeline after = let some = timeline.begins in absurd (omega arith)
some_until t (e ∷ xs) zero timeline after =
    let first : e.0 ≡ 0 = timeline.in_turn.1 in
    let late : t < e.0 = All-head (λ (x : ℕ × Value). t < x.0) e xs after in
    absurd (omega arith)

-- those behind the first one lie after 0
pub others_after : (xs : List (ℕ × Value)) → IsTimeline same_value standing xs → All (λ e. 0 < e.0) (drop 1 xs)
others_after [] timeline = All-nil (λ (e : ℕ × Value). 0 < e.0)
others_after (e ∷ xs) timeline = All-weaker (λ (x : ℕ × Value). e.0 < x.0) (λ (x : ℕ × Value). 0 < x.0) (λ x h. omega arith) xs (turns_later same_value standing e xs timeline.in_turn.2)

-- at t it goes on by the changes after t
goes_from : (d : ℕ × Value) (xs : List (ℕ × Value)) (n t : ℕ) (x : ℕ × Value) → AreInTurn same_value standing (Some d) xs → d.0 ≤ t → n ≤ length xs →
    All (λ e. e.0 ≤ t) (take n xs) → All (λ e. t < e.0) (drop n xs) → GoesOn (by d xs) (get_or (d ∷ xs) n x).1 (drop n xs) t
goes_from d [] zero t x turns low within until after = λ u high. refl
goes_from d (y ∷ xs) zero t x turns low within until after =
    let first : t < y.0 = All-head (λ (e : ℕ × Value). t < e.0) y xs after in
    later (by d (y ∷ xs)) d.1 (y ∷ xs) d.0 t (goes_by d (y ∷ xs) turns) low first
goes_from d [] (suc n) t x turns low within until after = absurd (omega arith)
goes_from d (y ∷ xs) (suc n) t x turns low within until after =
    let first : y.0 ≤ t = All-head (λ (e : ℕ × Value). e.0 ≤ t) y (take n xs) until in
    goes_same (by d (y ∷ xs)) (by y xs) (get_or (y ∷ xs) n x).1 (drop n xs) t
    (λ u high. by_next (Some d) y xs u (omega arith))
    (goes_from y xs n t x turns.2 first (omega arith) (All-tail (λ (e : ℕ × Value). e.0 ≤ t) y (take n xs) until) after)

-- the changes before a place, and those from it on
module _ (t : ℕ) (xs : List (ℕ × Value)) (n : ℕ) where
  pub all_before : AllWithin (λ e. nat_le e.0 t ≡ true) xs 0 n → All (λ e. e.0 ≤ t) (take n xs)
  all_before each k d low =
      let below : k < n = omega (arith, length-take n xs) in
      rw (get_or-take n xs k d below) (leb-true (get_or xs k d).0 t (each k d (omega arith) below))

  pub all_behind : AllWithin (λ e. nat_le e.0 t ≡ false) xs n (length xs) → All (λ e. t < e.0) (drop n xs)
  all_behind each k d low = rw (get_or-drop n xs k d) (leb-false (get_or xs (n + k) d).0 t (each (n + k) d (omega arith) (omega (arith, length-drop n xs))))

-- a wave goes on from a moment by the changes after it
pub wave_goes_on : (xs : List (ℕ × Value)) (n t : ℕ) (x : ℕ × Value) → IsTimeline same_value standing xs → 0 < n → n ≤ length xs → All (λ e. e.0 ≤ t) (take n xs) → All (λ e. t < e.0) (drop n xs) →
    x ≡ get_or xs (n - 1) x → GoesOn (wave_at xs) x.1 (drop n xs) t
wave_goes_on xs zero t x timeline some within until after read = absurd (omega arith)
wave_goes_on [] (suc n) t x timeline some within until after read = absurd (omega arith)
wave_goes_on (e ∷ rest) (suc n) t x timeline some within until after read =
    let first : e.0 ≡ 0 = timeline.in_turn.1 in
    let place : suc n - 1 ≡ n = omega arith in
    let same : get_or (e ∷ rest) n x ≡ x = ap (λ k. get_or (e ∷ rest) k x) (sym place) ∙ sym read in
    let goes : GoesOn (by e rest) (get_or (e ∷ rest) n x).1 (drop n rest) t =
    goes_from e rest n t x timeline.in_turn.2 (omega arith) (omega arith) (All-tail (λ (e : ℕ × Value). e.0 ≤ t) e (take n rest) until) after in
    goes_same (wave_at (e ∷ rest)) (by e rest) x.1 (drop n rest) t
    (λ u high. by_next None e rest u (omega arith))
    (subst (λ (d : ℕ × Value). GoesOn (by e rest) d.1 (drop n rest) t) same goes)
