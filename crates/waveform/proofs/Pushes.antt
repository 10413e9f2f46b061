-- A value from a moment on, after all entries.
use Rattle.std.proofs.Common.{◌≡◌, ℕ, ◌<◌, ◌≤◌, ◌∙◌, sym, ap, subst, Bool, true, false, cond, Option, Some, None, MatchOption, List, [], ◌∷◌, ◌++◌, length, refl, arith, nat_le, nat_lt, ⊎_elim}
use Rattle.std.specs.List.{last_or, All}
use Rattle.std.specs.Option.{option_map_or}
use Rattle.std.proofs.lemmas.Bool.{lt-leb, le-ltb, lt-ltb, cond_both, cases_lt, cond-true, cond-false}
use Rattle.std.proofs.lemmas.List.{append-nil, length-append}
use Rattle.std.proofs.lemmas.List.Elements.{All-push, All-weaker, All-head, All-tail, filter-append}
use Rattle.waveform.proofs.Drifts.{Drifts}
use Rattle.waveform.specs.Timelines.{entries_until, value_by}
use Rattle.waveform.specs.kept.Timelines.{IsTimeline, AreInTurn, is_reached, pushed}
use Rattle.waveform.proofs.Lists.{last_or-append, left_out, some_last}
use Rattle.waveform.proofs.Turns.{turns_joined, all_until}

-- the last entry lies before t; with none, t is 0
abbrev pub EndsBefore : {A : Type 0} → List (ℕ × A) → ℕ → Type 0
EndsBefore xs t = MatchOption (last_or None xs) (t ≡ 0) (λ d. d.0 < t)

pub ends_before : {A : Type 0} (xs : List (ℕ × A)) (t : ℕ) → 0 < length xs → All (λ e. e.0 < t) xs → EndsBefore xs t
ends_before [] t some all = absurd (omega arith)
ends_before (x ∷ xs) t some all =
    let last = some_last (λ e. e.0 < t) x xs (All-head (λ e. e.0 < t) x xs all) (All-tail (λ e. e.0 < t) x xs all) in
    subst (λ o. MatchOption o (t ≡ 0) (λ d. d.0 < t)) (sym last.1) last.2

-- an entry after u changes nothing up to u
pub until_before : {A : Type 0} (xs : List (ℕ × A)) (e : ℕ × A) (u : ℕ) → u < e.0 → entries_until (xs ++ e ∷ []) u ≡ entries_until xs u
until_before xs e u before =
    filter-append (λ d. nat_le d.0 u) xs (e ∷ []) ∙ ap (λ ys. entries_until xs u ++ ys) (left_out (λ d. nat_le d.0 u) e [] (lt-leb e.0 u before))
    ∙ append-nil (entries_until xs u)

module _ {A : Type 0} {same : A → A → Bool} {drift : A → ℕ → A} (drifts : Drifts same drift) where
  pub pushed_all : (P : ℕ × A → Type 0) (xs : List (ℕ × A)) (t : ℕ) (v : A) → All P xs → P (t, v) → All P (pushed same drift xs t v)
  pushed_all P xs t v all one =
      cond_both (is_reached same drift xs t v) xs (xs ++ (t, v) ∷ []) (All P) (λ e. all) (λ e. All-push P xs (t, v) all one)

  turns_by : (o : Option (ℕ × A)) (b : Bool) (xs : List (ℕ × A)) (t : ℕ) (v : A) → last_or None xs ≡ o →
      option_map_or (λ d. same v (drift d.1 t)) o false ≡ b → MatchOption o (t ≡ 0) (λ d. d.0 < t) → AreInTurn same drift None xs → drift v t ≡ v →
      AreInTurn same drift None (cond b xs (xs ++ (t, v) ∷ []))
  turns_by o true xs t v last reached room turns settled = turns
  turns_by None false xs t v last reached room turns settled =
      turns_joined same drift None xs ((t, v) ∷ []) turns
      (subst (λ o. AreInTurn same drift o ((t, v) ∷ [])) (sym last) (settled, room, tt))
  turns_by (Some d) false xs t v last reached room turns settled =
      turns_joined same drift None xs ((t, v) ∷ []) turns
      (subst (λ o. AreInTurn same drift o ((t, v) ∷ [])) (sym last) (settled, (room, reached), tt))

  pub pushed_turns : (xs : List (ℕ × A)) (t : ℕ) (v : A) → EndsBefore xs t → AreInTurn same drift None xs → drift v t ≡ v →
      AreInTurn same drift None (pushed same drift xs t v)
  pushed_turns xs t v room turns settled =
      turns_by (last_or None xs) (is_reached same drift xs t v) xs t v refl refl room turns settled

  last_by : (o : Option (ℕ × A)) (b : Bool) (xs : List (ℕ × A)) (t : ℕ) (v : A) → last_or None xs ≡ o →
      option_map_or (λ d. same v (drift d.1 t)) o false ≡ b → MatchOption o (t ≡ 0) (λ d. d.0 < t) →
      (d : ℕ × A) × (last_or None (cond b xs (xs ++ (t, v) ∷ [])) ≡ Some d) × ((d.0 ≤ t) × ((u : ℕ) → t ≤ u → drift d.1 u ≡ drift v u))
  last_by o false xs t v last reached room = ((t, v), last_or-append None xs ((t, v) ∷ []), (omega arith, λ u le. refl))
  last_by None true xs t v last reached room = absurd (cc)
  last_by (Some d) true xs t v last reached room =
      let now : v ≡ drift d.1 t = drifts.same_is_equal v (drift d.1 t) reached in
      (d, last, (omega arith, λ u le. sym (drifts.drift_twice d.1 t u le) ∙ ap (λ a. drift a u) (sym now)))

  -- the last entry after a push drifts as the value pushed
  pub pushed_last : (xs : List (ℕ × A)) (t : ℕ) (v : A) → EndsBefore xs t →
      (d : ℕ × A) × (last_or None (pushed same drift xs t v) ≡ Some d) × ((d.0 ≤ t) × ((u : ℕ) → t ≤ u → drift d.1 u ≡ drift v u))
  pushed_last xs t v room = last_by (last_or None xs) (is_reached same drift xs t v) xs t v refl refl room

  pub pushed_until : (xs : List (ℕ × A)) (t : ℕ) (v : A) (u : ℕ) → u < t → entries_until (pushed same drift xs t v) u ≡ entries_until xs u
  pushed_until xs t v u before =
      cond_both (is_reached same drift xs t v) xs (xs ++ (t, v) ∷ []) (λ ys. entries_until ys u ≡ entries_until xs u)
      (λ e. refl) (λ e. until_before xs (t, v) u before)

  -- the value at u once v is pushed at t
  pub pushed_value : (start : A) (xs : List (ℕ × A)) (t : ℕ) (v : A) → EndsBefore xs t → All (λ e. e.0 < t) xs → (u : ℕ) →
      value_by drift start (pushed same drift xs t v) u ≡ cond (nat_lt u t) (value_by drift start xs u) (drift v u)
  pushed_value start xs t v room early u =
      ⊎_elim
      (λ before. ap (λ ys. option_map_or (λ e. drift e.1 u) (last_or None ys) start) (pushed_until xs t v u before)
      ∙ sym (cond-true (nat_lt u t) (value_by drift start xs u) (drift v u) (lt-ltb u t before)))
      (λ after.
      let last = pushed_last xs t v room in
      let within : All (λ e. e.0 ≤ u) (pushed same drift xs t v) =
      pushed_all (λ e. e.0 ≤ u) xs t v (All-weaker (λ e. e.0 < t) (λ e. e.0 ≤ u) (λ e h. omega arith) xs early) after in
      ap (λ ys. option_map_or (λ e. drift e.1 u) (last_or None ys) start) (all_until same drift u (pushed same drift xs t v) within)
      ∙ ap (λ o. option_map_or (λ e. drift e.1 u) o start) last.1
      ∙ last.2.1 u after
      ∙ sym (cond-false (nat_lt u t) (value_by drift start xs u) (drift v u) (le-ltb u t after)))
      (cases_lt u t)

  -- a timeline with a value pushed is one
  pub pushed_timeline : (xs : List (ℕ × A)) (t : ℕ) (v : A) → IsTimeline same drift xs → All (λ e. e.0 < t) xs → drift v t ≡ v →
      IsTimeline same drift (pushed same drift xs t v)
  pushed_timeline xs t v timeline early settled =
      record {
        begins =
            cond_both (is_reached same drift xs t v) xs (xs ++ (t, v) ∷ []) (λ ys. 0 < length ys) (λ e. timeline.begins)
            (λ e. omega (arith, length-append xs ((t, v) ∷ [])));
        in_turn = pushed_turns xs t v (ends_before xs t timeline.begins early) timeline.in_turn settled;
      }
