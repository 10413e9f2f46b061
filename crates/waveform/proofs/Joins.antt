-- A timeline up to a moment, and another from it on.
use Rattle.std.proofs.Common.{◌≡◌, ℕ, ◌<◌, ◌≤◌, ◌∙◌, sym, ap, subst, Bool, true, cond, Some, None, List, [], ◌∷◌, ◌++◌, length, refl, arith, nat_le, nat_lt, ⊎_elim}
use Rattle.std.specs.List.{last_or, All}
use Rattle.std.specs.Option.{option_map_or}
use Rattle.std.proofs.lemmas.Bool.{lt-ltb, le-ltb, leb-true, ltb-true, cond-true, cond-false, cases_lt}
use Rattle.std.proofs.lemmas.List.{append-nil, length-append}
use Rattle.std.proofs.lemmas.List.Elements.{All-append, All-filter, All-head, All-weaker, filter_passes, filter-append}
use Rattle.waveform.proofs.Drifts.{Drifts}
use Rattle.waveform.specs.kept.Joins.{joined}
use Rattle.waveform.specs.Timelines.{entries_until, entries_after, latest, value_by}
use Rattle.waveform.specs.kept.Timelines.{IsTimeline, AreInTurn, pushed}
use Rattle.waveform.proofs.Lists.{last_or-append, some_entry}
use Rattle.waveform.proofs.Turns.{turns_joined, turns_until, none_until, all_until, until_then_after, latest_some}
use Rattle.waveform.proofs.Pushes.{EndsBefore, pushed_all, pushed_turns, pushed_last, pushed_until}

-- the entries after t lie after t
pub after_later : {A : Type 0} (ys : List (ℕ × A)) (t : ℕ) → All (λ e. t < e.0) (entries_after ys t)
after_later ys t =
    All-weaker (λ e. nat_lt t e.0 ≡ true) (λ e. t < e.0) (λ e h. ltb-true t e.0 h) (entries_after ys t) (filter_passes (λ e. nat_lt t e.0) ys)

-- the entries up to t lie up to t
pub until_early : {A : Type 0} (ys : List (ℕ × A)) (t : ℕ) → All (λ e. e.0 ≤ t) (entries_until ys t)
until_early ys t =
    All-weaker (λ e. nat_le e.0 t ≡ true) (λ e. e.0 ≤ t) (λ e h. leb-true e.0 t h) (entries_until ys t) (filter_passes (λ e. nat_le e.0 t) ys)

module _ {A : Type 0} {same : A → A → Bool} {drift : A → ℕ → A} (drifts : Drifts same drift) where
  -- what follows an entry follows another one that drifts alike
  turns_swapped : (d l : ℕ × A) (t : ℕ) (es : List (ℕ × A)) → All (λ e. t < e.0) es → l.0 ≤ t → ((u : ℕ) → t ≤ u → drift l.1 u ≡ drift d.1 u) →
      AreInTurn same drift (Some d) es → AreInTurn same drift (Some l) es
  turns_swapped d l t [] later before alike turns = tt
  turns_swapped d l t (e ∷ es) later before alike turns =
      let after : t < e.0 = All-head (λ x. t < x.0) e es later in
      (turns.0, (omega arith, rw (alike e.0 (omega arith)) turns.1.1), turns.2)

  -- an entry of ys at t or before, with what ys gives at t
  pub at_moment : (start : A) (ys : List (ℕ × A)) (t : ℕ) → IsTimeline same drift ys →
      (d : ℕ × A) × (latest ys t ≡ Some d) × ((d.0 ≤ t) × (value_by drift start ys t ≡ drift d.1 t))
  at_moment start ys t timeline =
      let entry = latest_some same drift (λ _. Unit {0}) ys t timeline (λ k d low. tt) in
      (entry.0, entry.1, (entry.2.0, ap (λ o. option_map_or (λ e. drift e.1 t) o start) entry.1))

  pub value_settled : (start : A) (ys : List (ℕ × A)) (t : ℕ) → IsTimeline same drift ys →
      drift (value_by drift start ys t) t ≡ value_by drift start ys t
  value_settled start ys t timeline =
      let entry = at_moment start ys t timeline in
      ap (λ a. drift a t) entry.2.1 ∙ drifts.drift_twice entry.0.1 t t (omega arith) ∙ sym entry.2.1

  -- the last entry up to t drifts, from t on, as the latest entry of ys
  last_joined : (start : A) (xs ys : List (ℕ × A)) (t : ℕ) → EndsBefore xs t → IsTimeline same drift ys →
      (d : ℕ × A) × (l : ℕ × A) × (latest ys t ≡ Some d)
      × ((last_or None (pushed same drift xs t (value_by drift start ys t)) ≡ Some l) × ((l.0 ≤ t) × ((u : ℕ) → t ≤ u → drift l.1 u ≡ drift d.1 u)))
  last_joined start xs ys t room timeline =
      let entry = at_moment start ys t timeline in
      let last = pushed_last drifts xs t (value_by drift start ys t) room in (
        entry.0,
        last.0,
        entry.1,
        (
          last.1,
          (
            last.2.0,
            λ u le.
                last.2.1 u le ∙ ap (λ a. drift a u) entry.2.1 ∙ drifts.drift_twice entry.0.1 t u le,
          ),
        ),
      )

  -- the joined entries follow one another
  pub joined_turns : (start : A) (xs ys : List (ℕ × A)) (t : ℕ) → EndsBefore xs t → AreInTurn same drift None xs → IsTimeline same drift ys →
      AreInTurn same drift None (joined same drift start xs t ys)
  joined_turns start xs ys t room turns timeline =
      let v = value_by drift start ys t in
      let ends = last_joined start xs ys t room timeline in
      let rest : AreInTurn same drift (Some ends.0) (entries_after ys t) =
      subst (λ o. AreInTurn same drift o (entries_after ys t)) ends.2 (turns_until same drift t None ys timeline.in_turn).1 in
      turns_joined same drift None (pushed same drift xs t v) (entries_after ys t)
      (pushed_turns drifts xs t v room turns (value_settled start ys t timeline))
      (subst (λ o. AreInTurn same drift o (entries_after ys t)) (sym ends.3.0)
      (turns_swapped ends.0 ends.1 t (entries_after ys t) (after_later ys t) ends.3.1.0 ends.3.1.1 rest))

  -- P holds of the joined entries
  pub joined_all : (P : ℕ × A → Type 0) (start : A) (xs ys : List (ℕ × A)) (t : ℕ) → All P xs → P (t, value_by drift start ys t) → All P ys →
      All P (joined same drift start xs t ys)
  joined_all P start xs ys t front one back =
      All-append P (pushed same drift xs t (value_by drift start ys t)) (entries_after ys t)
      (pushed_all drifts P xs t (value_by drift start ys t) front one) (All-filter (λ e. nat_lt t e.0) P ys back)

  -- the joined entries are a timeline
  pub joined_timeline : (start : A) (xs ys : List (ℕ × A)) (t : ℕ) → EndsBefore xs t → AreInTurn same drift None xs → IsTimeline same drift ys →
      IsTimeline same drift (joined same drift start xs t ys)
  joined_timeline start xs ys t room turns timeline =
      let v = value_by drift start ys t in
      let ends = last_joined start xs ys t room timeline in
      let some : 0 < length (pushed same drift xs t v) = some_entry (pushed same drift xs t v) ends.1 ends.3.0 in
      record {
        begins = rw (length-append (pushed same drift xs t v) (entries_after ys t)) (omega arith);
        in_turn = joined_turns start xs ys t room turns timeline;
      }

  same_last : (start : A) (d l : ℕ × A) (u : ℕ) (es : List (ℕ × A)) → drift l.1 u ≡ drift d.1 u →
      option_map_or (λ e. drift e.1 u) (last_or (Some l) es) start ≡ option_map_or (λ e. drift e.1 u) (last_or (Some d) es) start
  same_last start d l u [] alike = alike
  same_last start d l u (e ∷ es) alike = refl

  -- before t the function is that of xs
  joined_before : (start : A) (xs ys : List (ℕ × A)) (t u : ℕ) → u < t →
      value_by drift start (joined same drift start xs t ys) u ≡ value_by drift start xs u
  joined_before start xs ys t u before =
      let front = pushed same drift xs t (value_by drift start ys t) in
      let later : All (λ e. u < e.0) (entries_after ys t) =
      All-weaker (λ e. t < e.0) (λ e. u < e.0) (λ e h. omega arith) (entries_after ys t) (after_later ys t) in
      ap (λ zs. option_map_or (λ e. drift e.1 u) (last_or None zs) start)
      (filter-append (λ e. nat_le e.0 u) front (entries_after ys t)
      ∙ ap (λ zs. entries_until front u ++ zs) (none_until same drift u (entries_after ys t) later)
      ∙ append-nil (entries_until front u)
      ∙ pushed_until drifts xs t (value_by drift start ys t) u before)

  -- from t on the function is that of ys
  joined_from : (start : A) (xs ys : List (ℕ × A)) (t u : ℕ) → EndsBefore xs t → All (λ e. e.0 < t) xs → IsTimeline same drift ys → t ≤ u →
      value_by drift start (joined same drift start xs t ys) u ≡ value_by drift start ys u
  joined_from start xs ys t u room early timeline after =
      let v = value_by drift start ys t in
      let front = pushed same drift xs t v in
      let rest = entries_until (entries_after ys t) u in
      let ends = last_joined start xs ys t room timeline in
      let within : All (λ e. e.0 ≤ u) front =
      pushed_all drifts (λ e. e.0 ≤ u) xs t v (All-weaker (λ e. e.0 < t) (λ e. e.0 ≤ u) (λ e h. omega arith) xs early) after in
      let until_within : All (λ e. e.0 ≤ u) (entries_until ys t) =
      All-weaker (λ e. e.0 ≤ t) (λ e. e.0 ≤ u) (λ e h. omega arith) (entries_until ys t) (until_early ys t) in
      let mine : latest (joined same drift start xs t ys) u ≡ last_or (Some ends.1) rest =
      ap (last_or None) (filter-append (λ e. nat_le e.0 u) front (entries_after ys t) ∙ ap (λ zs. zs ++ rest) (all_until same drift u front within))
      ∙ last_or-append None front rest ∙ ap (λ o. last_or o rest) ends.3.0 in
      let theirs : latest ys u ≡ last_or (Some ends.0) rest =
      ap (λ zs. last_or None (entries_until zs u)) (sym (until_then_after same drift t None ys timeline.in_turn))
      ∙ ap (last_or None) (filter-append (λ e. nat_le e.0 u) (entries_until ys t) (entries_after ys t) ∙ ap (λ zs. zs ++ rest) (all_until same drift u (entries_until ys t) until_within))
      ∙ last_or-append None (entries_until ys t) rest ∙ ap (λ o. last_or o rest) ends.2 in
      ap (λ o. option_map_or (λ e. drift e.1 u) o start) mine
      ∙ same_last start ends.0 ends.1 u rest (ends.3.1.1 u after)
      ∙ sym (ap (λ o. option_map_or (λ e. drift e.1 u) o start) theirs)

  -- the function of the joined entries
  pub joined_value : (start : A) (xs ys : List (ℕ × A)) (t : ℕ) → EndsBefore xs t → All (λ e. e.0 < t) xs → IsTimeline same drift ys → (u : ℕ) →
      value_by drift start (joined same drift start xs t ys) u ≡ cond (nat_lt u t) (value_by drift start xs u) (value_by drift start ys u)
  joined_value start xs ys t room early timeline u =
      ⊎_elim
      (λ before. joined_before start xs ys t u before ∙ sym (cond-true (nat_lt u t) (value_by drift start xs u) (value_by drift start ys u) (lt-ltb u t before)))
      (λ after. joined_from start xs ys t u room early timeline after ∙ sym (cond-false (nat_lt u t) (value_by drift start xs u) (value_by drift start ys u) (le-ltb u t after)))
      (cases_lt u t)
