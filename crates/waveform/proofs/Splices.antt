-- A timeline with the function of another over a span of moments.
use Rattle.std.proofs.Common.{◌≡◌, ℕ, ◌<◌, ◌≤◌, ◌+◌, ◌-◌, ◌∙◌, sym, ap, subst, Bool, true, cond, None, List, [], refl, arith, nat_le, nat_lt, ⊎_elim}
use Rattle.std.specs.Prelude.{◌&&◌}
use Rattle.std.specs.List.{last_or, All}
use Rattle.std.specs.Option.{option_map_or}
use Rattle.std.proofs.lemmas.Bool.{le-leb, lt-leb, lt-ltb, le-ltb, leb-true, ltb-true, cases_lt}
use Rattle.std.proofs.lemmas.List.Elements.{All-filter, All-weaker, filter_passes}
use Rattle.waveform.proofs.Drifts.{Drifts}
use Rattle.waveform.specs.kept.Joins.{joined, spliced}
use Rattle.waveform.specs.declared.times.TheConstants.{TIME_END}
use Rattle.waveform.specs.Timelines.{entries_before, entries_until, value_by}
use Rattle.waveform.specs.kept.Timelines.{IsTimeline, AreInTurn}
use Rattle.waveform.proofs.Lists.{filter-filter}
use Rattle.waveform.proofs.Turns.{before_zero, before_is, until_timeline, latest_some}
use Rattle.waveform.proofs.Pushes.{EndsBefore, ends_before}
use Rattle.waveform.proofs.Joins.{joined_timeline, joined_all, joined_value, until_early}

before_early : {A : Type 0} (xs : List (ℕ × A)) (t : ℕ) → All (λ e. e.0 < t) (entries_before xs t)
before_early xs t =
    All-weaker (λ e. nat_lt e.0 t ≡ true) (λ e. e.0 < t) (λ e h. ltb-true e.0 t h) (entries_before xs t) (filter_passes (λ e. nat_lt e.0 t) xs)

-- the value at u of the entries up to a later moment
pub value_until : {A : Type 0} (drift : A → ℕ → A) (start : A) (xs : List (ℕ × A)) (t u : ℕ) → u ≤ t →
    value_by drift start (entries_until xs t) u ≡ value_by drift start xs u
value_until drift start xs t u le =
    ap (λ zs. option_map_or (λ e. drift e.1 u) (last_or None zs) start)
    (filter-filter (λ e. nat_le e.0 u) (λ e. nat_le e.0 t) (λ e h. let low : e.0 ≤ u = leb-true e.0 u h in le-leb e.0 t (omega arith)) xs)

-- the value at u of the entries before a later moment
value_before : {A : Type 0} (drift : A → ℕ → A) (start : A) (xs : List (ℕ × A)) (t u : ℕ) → u < t →
    value_by drift start (entries_before xs t) u ≡ value_by drift start xs u
value_before drift start xs t u before =
    ap (λ zs. option_map_or (λ e. drift e.1 u) (last_or None zs) start)
    (filter-filter (λ e. nat_le e.0 u) (λ e. nat_lt e.0 t) (λ e h. let low : e.0 ≤ u = leb-true e.0 u h in lt-ltb e.0 t (omega arith)) xs)

module _ {A : Type 0} {same : A → A → Bool} {drift : A → ℕ → A} (drifts : Drifts same drift) where
  -- what can be stored: at each moment that can be, the value that a timeline has there
  pub value_can_store : (can : ℕ → A → Type 0) → ((t u : ℕ) (a : A) → t ≤ u → u < TIME_END → can t a → can u (drift a u)) → (start : A) (xs : List (ℕ × A)) (t : ℕ) →
      IsTimeline same drift xs → All (λ e. can e.0 e.1) xs → t < TIME_END → can t (value_by drift start xs t)
  value_can_store can later start xs t timeline all low =
      let entry = latest_some same drift (λ e. can e.0 e.1) xs t timeline all in
      subst (can t) (sym (ap (λ o. option_map_or (λ e. drift e.1 t) o start) entry.1)) (later entry.0.0 t entry.0.1 entry.2.0 low entry.2.1)

  front_room : (xs : List (ℕ × A)) (t : ℕ) → IsTimeline same drift xs → EndsBefore (entries_before xs t) t × AreInTurn same drift None (entries_before xs t)
  front_room xs t timeline =
      let P : List (ℕ × A) → Type 0 = λ zs. EndsBefore zs t × AreInTurn same drift None zs in
      ⊎_elim
      (λ some.
      let cut : IsTimeline same drift (entries_until xs (t - 1)) = until_timeline same drift xs (t - 1) timeline in
      subst P (sym (before_is xs t some))
      (ends_before (entries_until xs (t - 1)) t cut.begins (All-weaker (λ e. e.0 ≤ t - 1) (λ e. e.0 < t) (λ e h. omega arith) (entries_until xs (t - 1)) (until_early xs (t - 1))), cut.in_turn))
      (λ none.
      let zero_now : t ≡ 0 = omega arith in
      let empty : entries_before xs t ≡ [] = ap (entries_before xs) zero_now ∙ before_zero xs in
      subst P (sym empty) (zero_now, tt))
      (cases_lt 0 t)

  module _ (start : A) (xs ys : List (ℕ × A)) (begin end : ℕ) (order : begin ≤ end) (mine : IsTimeline same drift xs) (theirs : IsTimeline same drift ys) where
    front_timeline : IsTimeline same drift (joined same drift start (entries_before xs begin) begin (entries_until ys end))
    front_timeline =
        let room = front_room xs begin mine in
        joined_timeline drifts start (entries_before xs begin) (entries_until ys end) begin room.0 room.1 (until_timeline same drift ys end theirs)

    front_early : All (λ e. e.0 < end + 1) (joined same drift start (entries_before xs begin) begin (entries_until ys end))
    front_early =
        joined_all drifts (λ e. e.0 < end + 1) start (entries_before xs begin) (entries_until ys end) begin
        (All-weaker (λ e. e.0 < begin) (λ e. e.0 < end + 1) (λ e h. omega arith) (entries_before xs begin) (before_early xs begin)) (omega arith)
        (All-weaker (λ e. e.0 ≤ end) (λ e. e.0 < end + 1) (λ e h. omega arith) (entries_until ys end) (until_early ys end))

    front_room_after : EndsBefore (joined same drift start (entries_before xs begin) begin (entries_until ys end)) (end + 1)
    front_room_after =
        ends_before (joined same drift start (entries_before xs begin) begin (entries_until ys end)) (end + 1) front_timeline.begins front_early

    -- what is spliced is a timeline
    pub spliced_timeline : IsTimeline same drift (spliced same drift start xs begin end ys)
    spliced_timeline =
        joined_timeline drifts start (joined same drift start (entries_before xs begin) begin (entries_until ys end)) xs (end + 1) front_room_after front_timeline.in_turn mine

    -- what can be stored of both can be stored of what is spliced
    pub spliced_can_store : (can : ℕ → A → Type 0) → ((t u : ℕ) (a : A) → t ≤ u → u < TIME_END → can t a → can u (drift a u)) → end + 1 < TIME_END →
        All (λ e. can e.0 e.1) xs → All (λ e. can e.0 e.1) ys → All (λ e. can e.0 e.1) (spliced same drift start xs begin end ys)
    spliced_can_store can later low mine_can theirs_can =
        let P : ℕ × A → Type 0 = λ e. can e.0 e.1 in
        let theirs_cut = All-filter (λ e. nat_le e.0 end) P ys theirs_can in
        joined_all drifts P start (joined same drift start (entries_before xs begin) begin (entries_until ys end)) xs (end + 1)
        (joined_all drifts P start (entries_before xs begin) (entries_until ys end) begin (All-filter (λ e. nat_lt e.0 begin) P xs mine_can)
        (value_can_store can later start (entries_until ys end) begin (until_timeline same drift ys end theirs) theirs_cut (omega arith)) theirs_cut)
        (value_can_store can later start xs (end + 1) mine mine_can low) mine_can

    inside_front : (t : ℕ) →
        cond (nat_lt t (end + 1)) (value_by drift start (joined same drift start (entries_before xs begin) begin (entries_until ys end)) t) (value_by drift start xs t)
        ≡ cond (nat_lt t (end + 1)) (cond (nat_lt t begin) (value_by drift start xs t) (value_by drift start (entries_until ys end) t)) (value_by drift start xs t)
    inside_front t =
        let room = front_room xs begin mine in
        ap (λ a. cond (nat_lt t (end + 1)) a (value_by drift start xs t))
        (joined_value drifts start (entries_before xs begin) (entries_until ys end) begin room.0 (before_early xs begin) (until_timeline same drift ys end theirs) t
        ∙ ⊎_elim
        (λ before. rw (lt-ltb t begin before) (value_before drift start xs begin t before))
        (λ after. rw (le-ltb t begin after) refl)
        (cases_lt t begin))

    span : (t : ℕ) → cond (nat_lt t (end + 1)) (cond (nat_lt t begin) (value_by drift start xs t) (value_by drift start (entries_until ys end) t)) (value_by drift start xs t)
        ≡ cond (nat_le begin t && nat_le t end) (value_by drift start ys t) (value_by drift start xs t)
    span t =
        ⊎_elim
        (λ below.
        ⊎_elim
        (λ before. rw (lt-ltb t (end + 1) below, lt-ltb t begin before, lt-leb begin t before) refl)
        (λ after. rw (lt-ltb t (end + 1) below, le-ltb t begin after, le-leb begin t after, le-leb t end (omega arith)) (value_until drift start ys end t (omega arith)))
        (cases_lt t begin))
        (λ above.
        rw (le-ltb t (end + 1) above, le-leb begin t (omega arith), lt-leb t end (omega arith)) refl)
        (cases_lt t (end + 1))

    -- the function of what is spliced
    pub spliced_value : (t : ℕ) → value_by drift start (spliced same drift start xs begin end ys) t
        ≡ cond (nat_le begin t && nat_le t end) (value_by drift start ys t) (value_by drift start xs t)
    spliced_value t =
        joined_value drifts start (joined same drift start (entries_before xs begin) begin (entries_until ys end)) xs (end + 1) front_room_after front_early mine t
        ∙ inside_front t
        ∙ span t
