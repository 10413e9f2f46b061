-- Entries that follow one another.
use Rattle.std.proofs.Common.{◌≡◌, ℕ, ◌<◌, ◌≤◌, ◌∙◌, sym, ap, subst, Bool, true, false, Option, Some, None, List, [], ◌∷◌, ◌++◌, length, get_or, ◌-◌, refl, arith, nat_le, nat_lt, ⊎_elim}
use Rattle.std.specs.List.{last_or, All}
use Rattle.std.proofs.lemmas.Bool.{le-leb, lt-leb, le-ltb, lt-ltb, leb-false, leb-true, cases_lt}
use Rattle.std.proofs.lemmas.List.Elements.{All-nil, All-cons, All-head, All-tail, All-weaker, All-filter, filter_passes}
use Rattle.waveform.specs.Timelines.{entries_before, entries_until, entries_after, latest}
use Rattle.waveform.specs.kept.Timelines.{IsTimeline, AreInTurn}
use Rattle.waveform.proofs.Lists.{filter-all, filter-none, filter-same, taken, left_out, some_last}

-- no entry lies before 0
pub before_zero : {A : Type 0} (xs : List (ℕ × A)) → entries_before xs 0 ≡ []
before_zero xs = filter-none (λ e. nat_lt e.0 0) xs (λ k d low. le-ltb (get_or xs k d).0 0 (omega arith))

-- the entries before a moment are those up to the moment before
pub before_is : {A : Type 0} (xs : List (ℕ × A)) (t : ℕ) → 0 < t → entries_before xs t ≡ entries_until xs (t - 1)
before_is xs t some = filter-same (λ e. nat_lt e.0 t) (λ e. nat_le e.0 (t - 1)) (λ e.
    ⊎_elim
    (λ below. lt-ltb e.0 t below ∙ sym (le-leb e.0 (t - 1) (omega arith)))
    (λ above. le-ltb e.0 t above ∙ sym (lt-leb e.0 (t - 1) (omega arith)))
    (cases_lt e.0 t)) xs

module _ {A : Type 0} (same : A → A → Bool) (drift : A → ℕ → A) where
  pub turns_joined : (before : Option (ℕ × A)) (xs ys : List (ℕ × A)) →
      AreInTurn same drift before xs → AreInTurn same drift (last_or before xs) ys → AreInTurn same drift before (xs ++ ys)
  turns_joined before [] ys front back = back
  turns_joined before (x ∷ xs) ys front back = (front.0, front.1, turns_joined (Some x) xs ys front.2 back)

  pub turns_split : (before : Option (ℕ × A)) (xs ys : List (ℕ × A)) →
      AreInTurn same drift before (xs ++ ys) → AreInTurn same drift before xs × AreInTurn same drift (last_or before xs) ys
  turns_split before [] ys turns = (tt, turns)
  turns_split before (x ∷ xs) ys turns =
      let rest = turns_split (Some x) xs ys turns.2 in ((turns.0, turns.1, rest.0), rest.1)

  -- all entries lie after the one before them
  pub turns_later : (d : ℕ × A) (xs : List (ℕ × A)) → AreInTurn same drift (Some d) xs → All (λ e. d.0 < e.0) xs
  turns_later d [] turns = All-nil (λ e. d.0 < e.0)
  turns_later d (x ∷ xs) turns =
      All-cons (λ e. d.0 < e.0) x xs turns.1.0
      (All-weaker (λ e. x.0 < e.0) (λ e. d.0 < e.0) (λ e later. let first : d.0 < x.0 = turns.1.0 in omega arith) xs (turns_later x xs turns.2))

  -- entries after a moment
  pub none_until : (t : ℕ) (xs : List (ℕ × A)) → All (λ e. t < e.0) xs → entries_until xs t ≡ []
  none_until t xs later =
      filter-none (λ e. nat_le e.0 t) xs (All-weaker (λ e. t < e.0) (λ e. nat_le e.0 t ≡ false) (λ e h. lt-leb e.0 t h) xs later)

  pub all_after : (t : ℕ) (xs : List (ℕ × A)) → All (λ e. t < e.0) xs → entries_after xs t ≡ xs
  all_after t xs later =
      filter-all (λ e. nat_lt t e.0) xs (All-weaker (λ e. t < e.0) (λ e. nat_lt t e.0 ≡ true) (λ e h. lt-ltb t e.0 h) xs later)

  -- entries at a moment or before
  pub all_until : (t : ℕ) (xs : List (ℕ × A)) → All (λ e. e.0 ≤ t) xs → entries_until xs t ≡ xs
  all_until t xs early =
      filter-all (λ e. nat_le e.0 t) xs (All-weaker (λ e. e.0 ≤ t) (λ e. nat_le e.0 t ≡ true) (λ e h. le-leb e.0 t h) xs early)

  split_at_first : (t : ℕ) (x : ℕ × A) (xs : List (ℕ × A)) (b : Bool) → nat_le x.0 t ≡ b → AreInTurn same drift (Some x) xs →
      entries_until xs t ++ entries_after xs t ≡ xs → entries_until (x ∷ xs) t ++ entries_after (x ∷ xs) t ≡ x ∷ xs
  split_at_first t x xs true e turns rest =
      let within : x.0 ≤ t = leb-true x.0 t e in
      rw (taken (λ d. nat_le d.0 t) x xs e, left_out (λ d. nat_lt t d.0) x xs (le-ltb t x.0 within)) (ap (λ ys. x ∷ ys) rest)
  split_at_first t x xs false e turns rest =
      let beyond : t < x.0 = leb-false x.0 t e in
      let later : All (λ d. t < d.0) xs = All-weaker (λ d. x.0 < d.0) (λ d. t < d.0) (λ d h. omega arith) xs (turns_later x xs turns) in
      rw (left_out (λ d. nat_le d.0 t) x xs e, none_until t xs later, taken (λ d. nat_lt t d.0) x xs (lt-ltb t x.0 beyond), all_after t xs later) refl

  -- the entries up to a moment, and then those after it
  pub until_then_after : (t : ℕ) (before : Option (ℕ × A)) (xs : List (ℕ × A)) → AreInTurn same drift before xs →
      entries_until xs t ++ entries_after xs t ≡ xs
  until_then_after t before [] turns = refl
  until_then_after t before (x ∷ xs) turns =
      split_at_first t x xs (nat_le x.0 t) refl turns.2 (until_then_after t (Some x) xs turns.2)

  pub turns_until : (t : ℕ) (before : Option (ℕ × A)) (xs : List (ℕ × A)) → AreInTurn same drift before xs →
      AreInTurn same drift before (entries_until xs t) × AreInTurn same drift (last_or before (entries_until xs t)) (entries_after xs t)
  turns_until t before xs turns =
      turns_split before (entries_until xs t) (entries_after xs t)
      (subst (λ ys. AreInTurn same drift before ys) (sym (until_then_after t before xs turns)) turns)

  -- a timeline has an entry at each moment or before, of which P holds if it holds of all
  pub latest_some : (P : ℕ × A → Type 0) (xs : List (ℕ × A)) (t : ℕ) → IsTimeline same drift xs → All P xs →
      (d : ℕ × A) × (latest xs t ≡ Some d) × ((d.0 ≤ t) × P d)
  latest_some P [] t timeline all = let no : 0 < 0 = timeline.begins in absurd (omega arith)
  latest_some P (x ∷ xs) t timeline all =
      let first : x.0 ≡ 0 = timeline.in_turn.1 in
      let within : x.0 ≤ t = omega arith in
      let early : All (λ e. e.0 ≤ t) (entries_until xs t) =
      All-weaker (λ e. nat_le e.0 t ≡ true) (λ e. e.0 ≤ t) (λ e h. leb-true e.0 t h) (entries_until xs t) (filter_passes (λ e. nat_le e.0 t) xs) in
      let each : All P (entries_until xs t) = All-filter (λ e. nat_le e.0 t) P xs (All-tail P x xs all) in
      let last = some_last (λ e. (e.0 ≤ t) × P e) x (entries_until xs t) (within, All-head P x xs all)
      (λ k d low. (early k d low, each k d low)) in
      (last.0, ap (λ ys. last_or None ys) (taken (λ e. nat_le e.0 t) x xs (le-leb x.0 t within)) ∙ last.1, last.2)

  -- a timeline has an entry at each moment or before
  pub some_until : (xs : List (ℕ × A)) (t : ℕ) → IsTimeline same drift xs → 0 < length (entries_until xs t)
  some_until [] t timeline = timeline.begins
  some_until (x ∷ xs) t timeline =
      let first : x.0 ≡ 0 = timeline.in_turn.1 in
      let begun : entries_until (x ∷ xs) t ≡ x ∷ entries_until xs t = taken (λ e. nat_le e.0 t) x xs (le-leb x.0 t (omega arith)) in
      rw begun (omega arith)

  -- a timeline up to a moment is one
  pub until_timeline : (xs : List (ℕ × A)) (t : ℕ) → IsTimeline same drift xs → IsTimeline same drift (entries_until xs t)
  until_timeline xs t timeline =
      record { begins = some_until xs t timeline; in_turn = (turns_until t None xs timeline.in_turn).0 }

  up_to_last : (b d : ℕ × A) (xs : List (ℕ × A)) → AreInTurn same drift (Some b) xs → last_or (Some b) xs ≡ Some d → (b.0 ≤ d.0) × All (λ e. e.0 ≤ d.0) xs
  up_to_last b d [] turns last = let same_entry : b ≡ d = cc in (rw same_entry (omega arith), All-nil (λ e. e.0 ≤ d.0))
  up_to_last b d (x ∷ xs) turns last =
      let rest = up_to_last x d xs turns.2 last in
      let later : b.0 < x.0 = turns.1.0 in
      let within : x.0 ≤ d.0 = rest.0 in
      (omega arith, All-cons (λ e. e.0 ≤ d.0) x xs within rest.1)

  -- no entry lies after the last one
  pub all_up_to_last : (d : ℕ × A) (xs : List (ℕ × A)) → AreInTurn same drift None xs → last_or None xs ≡ Some d → All (λ e. e.0 ≤ d.0) xs
  all_up_to_last d [] turns last = All-nil (λ e. e.0 ≤ d.0)
  all_up_to_last d (x ∷ xs) turns last =
      let rest = up_to_last x d xs turns.2 last in All-cons (λ e. e.0 ≤ d.0) x xs rest.0 rest.1
