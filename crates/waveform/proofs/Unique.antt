-- A function of time has one timeline.
use Rattle.std.proofs.Common.{◌≡◌, ℕ, ◌<◌, ◌≤◌, ◌∙◌, sym, ap, subst, Bool, true, false, Some, None, List, [], ◌∷◌, refl, arith, nat_le, ⊎_elim}
use Rattle.std.specs.List.{last_or, All}
use Rattle.std.specs.Option.{option_map_or}
use Rattle.std.proofs.lemmas.Bool.{le-leb, lt-leb, cases_order}
use Rattle.std.proofs.lemmas.List.Elements.{All-weaker}
use Rattle.waveform.proofs.Drifts.{Drifts}
use Rattle.waveform.specs.Timelines.{entries_until, value_by}
use Rattle.waveform.specs.kept.Timelines.{IsTimeline, AreInTurn}
use Rattle.waveform.proofs.Lists.{taken, left_out}
use Rattle.waveform.proofs.Turns.{turns_later, none_until}

same_pair : {A : Type 0} (t u : ℕ) (a b : A) → t ≡ u → a ≡ b → ◌≡◌ {A = ℕ × A} (t, a) (u, b)
same_pair t u a b times values = cc

module _ {A : Type 0} {same : A → A → Bool} {drift : A → ℕ → A} (drifts : Drifts same drift) (start : A) where
  -- the value at u by the entries xs behind the entry d
  value_after : ℕ × A → List (ℕ × A) → ℕ → A
  value_after d xs u = option_map_or (λ e. drift e.1 u) (last_or (Some d) (entries_until xs u)) start

  -- it is that behind the first entry, from that one's time on
  after_first : (d x : ℕ × A) (xs : List (ℕ × A)) (u : ℕ) → x.0 ≤ u → value_after d (x ∷ xs) u ≡ value_after x xs u
  unfolding value_after
  after_first d x xs u le =
      ap (λ zs. option_map_or (λ e. drift e.1 u) (last_or (Some d) zs) start) (taken (λ e. nat_le e.0 u) x xs (le-leb x.0 u le))

  -- at the first entry's time it is that entry's
  at_first : (d x : ℕ × A) (xs : List (ℕ × A)) → drift x.1 x.0 ≡ x.1 → AreInTurn same drift (Some x) xs → value_after d (x ∷ xs) x.0 ≡ x.1
  unfolding value_after
  at_first d x xs settled turns =
      after_first d x xs x.0 (omega arith)
      ∙ ap (λ zs. option_map_or (λ e. drift e.1 x.0) (last_or (Some x) zs) start) (none_until same drift x.0 xs (turns_later same drift x xs turns))
      ∙ settled

  -- before it, the entry in front drifts
  before_first : (d x : ℕ × A) (xs : List (ℕ × A)) (u : ℕ) → u < x.0 → AreInTurn same drift (Some x) xs → value_after d (x ∷ xs) u ≡ drift d.1 u
  unfolding value_after
  before_first d x xs u before turns =
      let later : All (λ e. u < e.0) xs = All-weaker (λ e. x.0 < e.0) (λ e. u < e.0) (λ e h. omega arith) xs (turns_later same drift x xs turns) in
      ap (λ zs. option_map_or (λ e. drift e.1 u) (last_or (Some d) zs) start)
      (left_out (λ e. nat_le e.0 u) x xs (lt-leb x.0 u before) ∙ none_until same drift u xs later)

  -- an entry has another value than the one before it has become
  no_repeat : (d x : ℕ × A) → same x.1 (drift d.1 x.0) ≡ false → drift d.1 x.0 ≡ x.1 → ⊥
  no_repeat d x other reached =
      let equal : same x.1 (drift d.1 x.0) ≡ true = ap (same x.1) reached ∙ drifts.equal_is_same x.1 in
      cc

  same_behind : (d : ℕ × A) (xs ys : List (ℕ × A)) → AreInTurn same drift (Some d) xs → AreInTurn same drift (Some d) ys →
      ((u : ℕ) → d.0 ≤ u → value_after d xs u ≡ value_after d ys u) → xs ≡ ys
  unfolding value_after
  same_behind d [] [] mine theirs alike = refl
  same_behind d [] (y ∷ ys) mine theirs alike =
      let after : d.0 < y.0 = theirs.1.0 in
      absurd (no_repeat d y theirs.1.1 (alike y.0 (omega arith) ∙ at_first d y ys theirs.0 theirs.2))
  same_behind d (x ∷ xs) [] mine theirs alike =
      let after : d.0 < x.0 = mine.1.0 in
      absurd (no_repeat d x mine.1.1 (sym (alike x.0 (omega arith)) ∙ at_first d x xs mine.0 mine.2))
  same_behind d (x ∷ xs) (y ∷ ys) mine theirs alike =
      let after_x : d.0 < x.0 = mine.1.0 in
      let after_y : d.0 < y.0 = theirs.1.0 in
      ⊎_elim
      (λ at.
      let values : x.1 ≡ y.1 =
      sym (at_first d x xs mine.0 mine.2) ∙ alike x.0 (omega arith) ∙ ap (value_after d (y ∷ ys)) at ∙ at_first d y ys theirs.0 theirs.2 in
      let firsts : y ≡ x = same_pair y.0 x.0 y.1 x.1 (sym at) (sym values) in
      let rest : xs ≡ ys =
      same_behind x xs ys mine.2 (subst (λ e. AreInTurn same drift (Some e) ys) firsts theirs.2)
      (λ u le. sym (after_first d x xs u le) ∙ alike u (omega arith) ∙ after_first d y ys u (omega arith) ∙ ap (λ e. value_after e ys u) firsts) in
      ap (λ e. e ∷ xs) (sym firsts) ∙ ap (λ zs. y ∷ zs) rest)
      (λ apart.
      ⊎_elim
      (λ before. absurd (no_repeat d x mine.1.1 (sym (before_first d y ys x.0 before theirs.2) ∙ sym (alike x.0 (omega arith)) ∙ at_first d x xs mine.0 mine.2)))
      (λ behind. absurd (no_repeat d y theirs.1.1 (sym (before_first d x xs y.0 behind mine.2) ∙ alike y.0 (omega arith) ∙ at_first d y ys theirs.0 theirs.2)))
      apart)
      (cases_order x.0 y.0)

  value_from_first : (x : ℕ × A) (xs : List (ℕ × A)) (u : ℕ) → x.0 ≤ u → value_by drift start (x ∷ xs) u ≡ value_after x xs u
  unfolding value_after
  value_from_first x xs u le =
      ap (λ zs. option_map_or (λ e. drift e.1 u) (last_or None zs) start) (taken (λ e. nat_le e.0 u) x xs (le-leb x.0 u le))

  value_at_first : (x : ℕ × A) (xs : List (ℕ × A)) → drift x.1 x.0 ≡ x.1 → AreInTurn same drift (Some x) xs → value_by drift start (x ∷ xs) x.0 ≡ x.1
  value_at_first x xs settled turns =
      value_from_first x xs x.0 (omega arith) ∙ sym (after_first x x xs x.0 (omega arith)) ∙ at_first x x xs settled turns

  -- two timelines of one function are equal
  pub same_timeline : (xs ys : List (ℕ × A)) → IsTimeline same drift xs → IsTimeline same drift ys →
      ((t : ℕ) → value_by drift start xs t ≡ value_by drift start ys t) → xs ≡ ys
  same_timeline [] ys mine theirs alike = let none : 0 < 0 = mine.begins in absurd (omega arith)
  same_timeline (x ∷ xs) [] mine theirs alike = let none : 0 < 0 = theirs.begins in absurd (omega arith)
  same_timeline (x ∷ xs) (y ∷ ys) mine theirs alike =
      let x_first : x.0 ≡ 0 = mine.in_turn.1 in
      let y_first : y.0 ≡ 0 = theirs.in_turn.1 in
      let at : x.0 ≡ y.0 = omega arith in
      let values : x.1 ≡ y.1 =
      sym (value_at_first x xs mine.in_turn.0 mine.in_turn.2) ∙ alike x.0 ∙ ap (value_by drift start (y ∷ ys)) at ∙ value_at_first y ys theirs.in_turn.0 theirs.in_turn.2 in
      let firsts : y ≡ x = same_pair y.0 x.0 y.1 x.1 (sym at) (sym values) in
      let rest : xs ≡ ys =
      same_behind x xs ys mine.in_turn.2 (subst (λ e. AreInTurn same drift (Some e) ys) firsts theirs.in_turn.2)
      (λ u le. sym (value_from_first x xs u le) ∙ alike u ∙ value_from_first y ys u (omega arith) ∙ ap (λ e. value_after e ys u) firsts) in
      ap (λ e. e ∷ xs) (sym firsts) ∙ ap (λ zs. y ∷ zs) rest
