-- The wave of what a driver gives grows by the events of its trace.
use Rattle.std.proofs.Common.{map, ◌≡◌, ℕ, zero, suc, ◌<◌, ◌≤◌, ◌-◌, ◌+◌, ◌∙◌, sym, ap, subst, IfSome, rules, false, not, Option, Some, None, List, [], ◌∷◌, ◌++◌, refl, arith, nat_le, nat_lt, ⊎_elim}
use Rattle.std.specs.Prelude.{slice_get}
use Rattle.std.specs.List.{last_or, All}
use Rattle.std.specs.Option.{option_map_or}
use Rattle.std.proofs.lemmas.Bool.{cases_lt, le-leb, le-ltb}
use Rattle.std.proofs.lemmas.Grind.{common_steps}
use Rattle.std.proofs.lemmas.List.Elements.{All-filter, All-head, All-weaker, filter-append}
use Rattle.std.proofs.lemmas.List.Folds.{map_fixed}
use Rattle.fourstate.specs.declared.value.Value.{Value}
use Rattle.fourstate.specs.Values.{same_value}
use Rattle.fourstate.specs.kept.ValueLaws.{is_same, same_self}
use Rattle.gatestep.specs.Step.{State, initial, due, due_of}
use Rattle.waveform.specs.Changes.{wave_changes_below}
use Rattle.waveform.specs.kept.Changes.{state_at}
use Rattle.waveform.specs.kept.Currents.{Gives, GoesOn, currents}
use Rattle.waveform.specs.Entries.{same_state, standing}
use Rattle.waveform.specs.kept.SampleLaws.{due_twice, is_same_state, same_state_self}
use Rattle.waveform.specs.Timelines.{entries_after, entries_until, first_after, is_change}
use Rattle.waveform.specs.kept.Timelines.{IsTimeline, AreInTurn, is_reached, pushed}
use Rattle.waveform.proofs.Drifts.{Drifts}
use Rattle.waveform.proofs.Functions.{changes_early, pushed_is, reached_from, same_changes}
use Rattle.waveform.proofs.Gaps.{value_between}
use Rattle.waveform.proofs.Joins.{after_later, until_early}
use Rattle.waveform.proofs.Lists.{filter-none, find_is, last_or-append, left_out, taken}
use Rattle.waveform.proofs.Turns.{all_after, all_until, none_until, turns_later, turns_until, until_then_after}

waves_stand : Drifts same_value standing
waves_stand = record { same_is_equal = is_same; equal_is_same = same_self; drift_twice = λ a s u le. refl }

states_drift : Drifts same_state due
states_drift = record { same_is_equal = is_same_state; equal_is_same = same_state_self; drift_twice = due_twice }

-- a value that stands from the moment before m on, below n, has no change there
still_at : (f : ℕ → Value) (v : Value) (k : ℕ) → 0 < k → f k ≡ v → ((u : ℕ) → suc u ≡ k → f u ≡ v) → is_change same_value standing f k ≡ false
still_at f v zero some now before = absurd (omega arith)
still_at f v (suc k) some now before = ap (λ w. not (same_value w (f k))) (now ∙ sym (before k refl)) ∙ ap not (same_self (f k))

quiet : (f : ℕ → Value) (v : Value) (m n : ℕ) → 0 < m → m ≤ n → ((u : ℕ) → m ≤ suc u → u < n → f u ≡ v) → wave_changes_below f n ≡ wave_changes_below f m
quiet f v m n some order is =
    same_changes waves_stand f m n order
    (λ k from below. still_at f v k (omega arith) (is k (omega arith) below) (λ u one. is u (omega arith) (omega arith)))

-- where nothing is pending nothing changes
pub none_pending : (f : ℕ → Value) (c : Value) (m n : ℕ) → 0 < m → m ≤ n → Gives f (record { current = c; pending = None }) m n →
    wave_changes_below f n ≡ wave_changes_below f m
none_pending f c m n some order gives = quiet f c m n some order gives

due_past : (c v : Value) (d u : ℕ) → d ≤ u → (due_of c (Some (v, d)) u).current ≡ v
due_past c v d u past = grind (arith, common_steps)

due_to_come : (c v : Value) (d u : ℕ) → u < d → (due_of c (Some (v, d)) u).current ≡ c
due_to_come c v d u before = grind (arith, common_steps)

-- nor where what is pending fell due before
pub event_past : (f : ℕ → Value) (c v : Value) (d m n : ℕ) → 0 < m → m ≤ n → d < m → Gives f (record { current = c; pending = Some (v, d) }) m n →
    wave_changes_below f n ≡ wave_changes_below f m
event_past f c v d m n some order past gives =
    quiet f v m n some order (λ u from below. gives u from below ∙ due_past c v d u (omega arith))

-- or falls due later
pub event_to_come : (f : ℕ → Value) (c v : Value) (d m n : ℕ) → 0 < m → m ≤ n → n ≤ d → Gives f (record { current = c; pending = Some (v, d) }) m n →
    wave_changes_below f n ≡ wave_changes_below f m
event_to_come f c v d m n some order later gives =
    quiet f c m n some order (λ u from below. gives u from below ∙ due_to_come c v d u (omega arith))

-- and an event that falls due is the one change
pub event_due : (f : ℕ → Value) (c v : Value) (d m n : ℕ) → 0 < m → m ≤ d → d < n → Gives f (record { current = c; pending = Some (v, d) }) m n →
    wave_changes_below f n ≡ pushed same_value standing (wave_changes_below f m) d v
event_due f c v d m n some from below gives =
    let before : wave_changes_below f d ≡ wave_changes_below f m =
    event_to_come f c v d m d some from (omega arith) (λ u after low. gives u after (omega arith)) in
    let here : f d ≡ v = gives d (omega arith) below ∙ due_past c v d d (omega arith) in
    let past : wave_changes_below f n ≡ wave_changes_below f (suc d) =
    quiet f v (suc d) n (omega arith) below (λ u after low. gives u (omega arith) low ∙ due_past c v d u (omega arith)) in
    past
    ∙ sym (pushed_is waves_stand f (λ t. refl) d)
    ∙ ap (λ w. pushed same_value standing (wave_changes_below f d) d w) here
    ∙ ap (λ ws. pushed same_value standing ws d v) before

-- a pending value that is the current one, which no driver has, would be none
same_due : (c : Value) (d u : ℕ) → (due_of c (Some (c, d)) u).current ≡ c
same_due c d u = ⊎_elim (λ before. due_to_come c c d u before) (λ past. due_past c c d u past) (cases_lt u d)

pub event_of_same : (f : ℕ → Value) (c v : Value) (d m n : ℕ) → 0 < m → m ≤ n → v ≡ c → Gives f (record { current = c; pending = Some (v, d) }) m n →
    wave_changes_below f n ≡ wave_changes_below f m
event_of_same f c v d m n some order same gives =
    quiet f c m n some order (λ u from below. gives u from below ∙ ap (λ w. (due_of c (Some (w, d)) u).current) same ∙ same_due c d u)

-- the wave does not have an event's value yet
pub not_reached : (f : ℕ → Value) (c v : Value) (d m n : ℕ) → 0 < m → m ≤ d → d < n → same_value v c ≡ false → Gives f (record { current = c; pending = Some (v, d) }) m n →
    is_reached same_value standing (wave_changes_below f m) d v ≡ false
not_reached f c v d m n some from below other gives =
    let was : f (m - 1) ≡ c = gives (m - 1) (omega arith) (omega arith) ∙ due_to_come c v d (m - 1) (omega arith) in
    reached_from waves_stand f (λ t. refl) m some v ∙ ap (same_value v) was ∙ other

-- what a state gives is told by what is pending in it
pub with_pending : (f : ℕ → Value) (s : State) (p : Option (Value × ℕ)) (m n : ℕ) → s.pending ≡ p → Gives f s m n → Gives f (record { current = s.current; pending = p }) m n
with_pending f s p m n is gives = λ u from below. gives u from below ∙ ap (λ q. (due_of s.current q u).current) is

before_none : (xs : List (ℕ × State)) (t : ℕ) → All (λ d. d.0 ≤ t) xs → entries_after xs t ≡ []
before_none xs t early =
    filter-none (λ d. nat_lt t d.0) xs (All-weaker (λ d. d.0 ≤ t) (λ d. nat_lt t d.0 ≡ false) (λ d h. le-ltb t d.0 h) xs early)

-- the entries after a moment, and those after the first of these
module _ (xs : List (ℕ × State)) (timeline : IsTimeline same_state due xs) where
  split : (r : ℕ) (e : ℕ × State) (es : List (ℕ × State)) → entries_after xs r ≡ e ∷ es → xs ≡ entries_until xs r ++ e ∷ es
  split r e es after =
      sym (until_then_after same_state due r None xs timeline.in_turn) ∙ ap (λ ys. entries_until xs r ++ ys) after

  later_than : (r : ℕ) (e : ℕ × State) (es : List (ℕ × State)) → entries_after xs r ≡ e ∷ es → All (λ d. e.0 < d.0) es
  later_than r e es after =
      let turns : AreInTurn same_state due (last_or None (entries_until xs r)) (e ∷ es) =
      subst (λ ys. AreInTurn same_state due (last_or None (entries_until xs r)) ys) after (turns_until same_state due r None xs timeline.in_turn).1 in
      turns_later same_state due e es turns.2

  pub next_lies : (r : ℕ) (e : ℕ × State) (es : List (ℕ × State)) → entries_after xs r ≡ e ∷ es → r < e.0
  next_lies r e es after = All-head (λ d. r < d.0) e es (subst (λ ys. All (λ d. r < d.0) ys) after (after_later xs r))

  -- after its first one there are the others
  pub others_after : (r : ℕ) (e : ℕ × State) (es : List (ℕ × State)) → entries_after xs r ≡ e ∷ es → entries_after xs e.0 ≡ es
  others_after r e es after =
      let low : r < e.0 = next_lies r e es after in
      let none : entries_after (entries_until xs r) e.0 ≡ [] = before_none (entries_until xs r) e.0 (All-weaker (λ d. d.0 ≤ r) (λ d. d.0 ≤ e.0) (λ d h. omega arith) (entries_until xs r) (until_early xs r)) in
      ap (λ ys. entries_after ys e.0) (split r e es after)
      ∙ filter-append (λ d. nat_lt e.0 d.0) (entries_until xs r) (e ∷ es)
      ∙ ap (λ ys. ys ++ entries_after (e ∷ es) e.0) none
      ∙ left_out (λ d. nat_lt e.0 d.0) e es (le-ltb e.0 e.0 (omega arith))
      ∙ all_after same_state due e.0 es (later_than r e es after)

  -- at that one its state stands
  pub stands_there : (r : ℕ) (e : ℕ × State) (es : List (ℕ × State)) → entries_after xs r ≡ e ∷ es → state_at xs e.0 ≡ due e.1 e.0
  stands_there r e es after =
      let low : r < e.0 = next_lies r e es after in
      let until : entries_until xs e.0 ≡ entries_until xs r ++ e ∷ [] =
      ap (λ ys. entries_until ys e.0) (split r e es after)
      ∙ filter-append (λ d. nat_le d.0 e.0) (entries_until xs r) (e ∷ es)
      ∙ ap (λ ys. ys ++ entries_until (e ∷ es) e.0)
      (all_until same_state due e.0 (entries_until xs r) (All-weaker (λ d. d.0 ≤ r) (λ d. d.0 ≤ e.0) (λ d h. omega arith) (entries_until xs r) (until_early xs r)))
      ∙ ap (λ ys. entries_until xs r ++ ys)
      (taken (λ d. nat_le d.0 e.0) e es (le-leb e.0 e.0 (omega arith)) ∙ ap (λ ys. e ∷ ys) (none_until same_state due e.0 es (later_than r e es after))) in
      ap (λ ys. option_map_or (λ d. due d.1 e.0) (last_or None ys) initial) until
      ∙ ap (λ o. option_map_or (λ d. due d.1 e.0) o initial) (last_or-append None (entries_until xs r) (e ∷ []))

  -- from r on, where the state s stood, up to the next entry it falls due alone
  falls_due : (r u : ℕ) (s : State) → state_at xs r ≡ due s r → r ≤ u → IfSome (first_after xs r) (λ e. suc u ≤ e.0) → state_at xs u ≡ due s u
  falls_due r u s now order next =
      value_between states_drift initial xs timeline r u (suc u) order (omega arith) next
      ∙ ap (λ a. due a u) now ∙ due_twice s r u order

  first_is : (r : ℕ) (e : ℕ × State) (es : List (ℕ × State)) → entries_after xs r ≡ e ∷ es → first_after xs r ≡ Some e
  first_is r e es after = find_is (λ d. nat_lt r d.0) xs ∙ ap (λ ys. slice_get ys 0) after

  none_is : (r : ℕ) → entries_after xs r ≡ [] → first_after xs r ≡ None
  none_is r after = find_is (λ d. nat_lt r d.0) xs ∙ ap (λ ys. slice_get ys 0) after

  at_next : (end : ℕ) (s : State) (u : ℕ) → state_at xs u ≡ due s u → suc u < end → GoesOn xs end → currents xs (suc u) ≡ (due s (suc u)).current
  at_next end s u now low on = on u low ∙ ap (λ a. (due a (suc u)).current) now ∙ ap (λ a. a.current) (due_twice s u (suc u) (omega arith))

  -- up to and with the moment of the next entry a driver gives what its state comes to
  pub gives_until_next : (m end : ℕ) (s : State) (e : ℕ × State) (es : List (ℕ × State)) → 0 < m → state_at xs (m - 1) ≡ due s (m - 1) →
      entries_after xs (m - 1) ≡ e ∷ es → e.0 < end → GoesOn xs end → Gives (currents xs) s m (e.0 + 1)
  gives_until_next m end s e es some now after low on = λ u from below.
      let stands : (k : ℕ) → m - 1 ≤ k → k < e.0 → state_at xs k ≡ due s k = λ k past before.
      falls_due (m - 1) k s now past (subst (λ (o : Option (ℕ × State)). IfSome o (λ d. suc k ≤ d.0)) (sym (first_is (m - 1) e es after)) (omega arith)) in
      ⊎_elim
      (λ before. ap (λ a. a.current) (stands u (omega arith) before))
      (λ there.
      let lies : m - 1 < e.0 = next_lies (m - 1) e es after in
      let is : suc (u - 1) ≡ u = omega arith in
      subst (λ k. currents xs k ≡ (due s k).current) is
      (at_next end s (u - 1) (stands (u - 1) (omega arith) (omega arith)) (omega arith) on))
      (cases_lt u e.0)

  -- and so it does for good after the last one
  pub gives_to_the_end : (m end : ℕ) (s : State) → 0 < m → state_at xs (m - 1) ≡ due s (m - 1) → entries_after xs (m - 1) ≡ [] → Gives (currents xs) s m end
  gives_to_the_end m end s some now after = λ u from below.
      ap (λ a. a.current)
      (falls_due (m - 1) u s now (omega arith) (subst (λ (o : Option (ℕ × State)). IfSome o (λ d. suc u ≤ d.0)) (sym (none_is (m - 1) after)) (search rules)))

-- an entry after a moment lies below all that the entries lie below
pub next_below : (xs : List (ℕ × State)) (r end : ℕ) (e : ℕ × State) (es : List (ℕ × State)) → All (λ d. d.0 < end) xs → entries_after xs r ≡ e ∷ es → e.0 < end
next_below xs r end e es early after =
    All-head (λ d. d.0 < end) e es (subst (λ ys. All (λ d. d.0 < end) ys) after (All-filter (λ d. nat_lt r d.0) (λ d. d.0 < end) xs early))

-- the changes below a moment lie below it
pub changes_early_on : (f : ℕ → Value) (m : ℕ) (ws : List (ℕ × Value)) → ws ≡ wave_changes_below f m → All (λ e. e.0 < m) ws
changes_early_on f m ws is = subst (λ vs. All (λ e. e.0 < m) vs) (sym is) (changes_early waves_stand f m)

-- entries that are stored as they are
pub as_stored : (xs : List (ℕ × State)) → map (λ e. e) xs ≡ xs
as_stored xs = map_fixed (λ e. e) xs (λ k d low. refl)
