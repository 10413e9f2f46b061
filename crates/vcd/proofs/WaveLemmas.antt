-- Waves: what is left of them, and when they change next.
use Rattle.std.proofs.Common.{◌≡◌, ◌<◌, ◌≤◌, ℕ, zero, suc, ◌+◌, true, false, refl, ap, subst, sym, ◌∙◌, List, [], ◌∷◌, length, drop, Option, Some, None, arith}
use Rattle.std.specs.Prelude.{◌==◌, ◌||◌, nat_le}
use Rattle.std.specs.List.{last_or, slice_index_or}
use Rattle.std.proofs.lemmas.Bool.{leb-true, leb-false, le-leb, lt-leb, eq-eqb}
use Rattle.std.proofs.lemmas.Grind.{common_steps}
use Rattle.fourstate.specs.declared.value.Value.{Value}
use Rattle.fourstate.specs.Values.{same_value}
use Rattle.waveform.specs.Changes.{wave_at}
use Rattle.waveform.specs.Entries.{standing}
use Rattle.waveform.specs.Timelines.{entries_until}
use Rattle.waveform.specs.kept.Timelines.{AreInTurn, IsTimeline}
use Rattle.vcd.specs.declared.upcoming.TheConstants.{NEVER}
use Rattle.vcd.specs.Changes.{change_line, changes_at, some_changes_at, value_line}
use Rattle.vcd.specs.kept.Kept.{IsNext, changes_from, time_of}
use Rattle.vcd.specs.kept.Waves.{wave_in}

-- two moments that differ
apart : (a s : ℕ) → s < a → (a == s) ≡ false
apart a s less = grind (arith, common_steps)

apart_below : (a s : ℕ) → a < s → (a == s) ≡ false
apart_below a s less = grind (arith, common_steps)

-- no change up to the moment of the change before
none_until : (d : ℕ × Value) (es : List (ℕ × Value)) (s : ℕ) → AreInTurn same_value standing (Some d) es → s ≤ d.0 → changes_at es s ≡ false
none_until d [] s turn le = refl
none_until d (e ∷ es) s turn le =
    let less : d.0 < e.0 = turn.1.0 in
    rw (apart e.0 s (omega arith)) (none_until e es s turn.2 (omega arith))

none_after : (e : ℕ × Value) (es : List (ℕ × Value)) (s : ℕ) → changes_at (e ∷ es) s ≡ false → changes_at es s ≡ false
none_after e es s none =
    elim (e.0 == s) as (λ b. (b || changes_at es s) ≡ false → changes_at es s ≡ false) [
      | true ↦ λ is. absurd (cc)
      | false ↦ λ is. is
    ] none

-- a time lies at t or after it, or before
by_time : (P : Type 0) (t a : ℕ) → (t ≤ a → P) → (a < t → P) → P
by_time P t a from below =
    elim (nat_le t a) as (λ b. nat_le t a ≡ b → P) [
      | true ↦ λ is. from (leb-true t a is)
      | false ↦ λ is. below (leb-false t a is)
    ] refl

-- What is left of a wave.

kept : (e : ℕ × Value) (es : List (ℕ × Value)) (t : ℕ) → t ≤ e.0 → changes_from (e ∷ es) t ≡ e ∷ changes_from es t
kept e es t le = rw (le-leb t e.0 le) refl

skipped : (e : ℕ × Value) (es : List (ℕ × Value)) (t : ℕ) → e.0 < t → changes_from (e ∷ es) t ≡ changes_from es t
skipped e es t less = rw (lt-leb t e.0 less) refl

-- without a change in between as much is left
left_later : (wave : List (ℕ × Value)) (t u : ℕ) → t ≤ u → ((s : ℕ) → t ≤ s → s < u → changes_at wave s ≡ false) → changes_from wave u ≡ changes_from wave t
left_later [] t u le none = refl
left_later (e ∷ es) t u le none =
    let rest : changes_from es u ≡ changes_from es t = left_later es t u le (λ s from to. none_after e es s (none s from to)) in
    by_time (changes_from (e ∷ es) u ≡ changes_from (e ∷ es) t) u e.0
    (λ after. kept e es u after ∙ (ap (λ l. e ∷ l) rest ∙ sym (kept e es t (omega arith))))
    (λ before.
    by_time (changes_from (e ∷ es) u ≡ changes_from (e ∷ es) t) t e.0
    (λ from. absurd (let change : changes_at (e ∷ es) e.0 ≡ true = rw (eq-eqb e.0 e.0 refl) refl in let no : changes_at (e ∷ es) e.0 ≡ false = none e.0 from before in cc))
    (λ below. skipped e es u before ∙ (rest ∙ sym (skipped e es t below))))

-- what is left says when the wave changes next
next_from : (before : Option (ℕ × Value)) (wave : List (ℕ × Value)) (t : ℕ) (left : List (ℕ × Value)) → AreInTurn same_value standing before wave →
    t ≤ NEVER → left ≡ changes_from wave t → IsNext wave t (time_of left) left
next_from before [] t left turn moment is =
    let never : time_of left ≡ NEVER = ap time_of is in
    record {
      rest = is;
      first = refl;
      later = omega arith;
      none = λ s from to. refl;
      change = λ some. absurd (omega arith);
    }
next_from before (e ∷ es) t left turn moment is =
    by_time (IsNext (e ∷ es) t (time_of left) left) t e.0
    (λ from.
    let time : time_of left ≡ e.0 = ap time_of (is ∙ kept e es t from) in
    record {
      rest = is;
      first = refl;
      later = omega arith;
      none = λ s after to. rw (apart e.0 s (omega arith)) (none_until e es s turn.2 (omega arith));
      change = λ some. rw (eq-eqb e.0 (time_of left) (sym time)) refl;
    })
    (λ below.
    let next : IsNext es t (time_of left) left = next_from (Some e) es t left turn.2 moment (is ∙ skipped e es t below) in
    record {
      rest = is;
      first = refl;
      later = next.later;
      none = λ s after to. rw (apart_below e.0 s (omega arith)) (next.none s after to);
      change = λ some. let later : t ≤ time_of left = next.later in rw (apart_below e.0 (time_of left) (omega arith)) (next.change some);
    })

-- up to its next change nothing changes
pub next_later : (wave : List (ℕ × Value)) (t u time : ℕ) (left : List (ℕ × Value)) → IsNext wave t time left → t ≤ u → u ≤ time → IsNext wave u time left
next_later wave t u time left next le to = record {
  rest = next.rest ∙ sym (left_later wave t u le (λ s from before. next.none s from (omega arith)));
  first = next.first;
  later = to;
  none = λ s from before. next.none s (omega arith) before;
  change = next.change;
}

-- behind a change at t
rest_of : (before : Option (ℕ × Value)) (wave : List (ℕ × Value)) (t : ℕ) (c : ℕ × Value) (later : List (ℕ × Value)) → AreInTurn same_value standing before wave →
    c ∷ later ≡ changes_from wave t → c.0 ≡ t → later ≡ changes_from wave (t + 1)
rest_of before [] t c later turn is at = absurd (cc)
rest_of before (e ∷ es) t c later turn is at =
    by_time (later ≡ changes_from (e ∷ es) (t + 1)) t e.0
    (λ from.
    let same : c ∷ later ≡ e ∷ changes_from es t = is ∙ kept e es t from in
    let first : c ≡ e = cc in
    let time : e.0 ≡ t = ap (λ d. d.0) (sym first) ∙ at in
    let rest : later ≡ changes_from es t = cc in
    rest ∙ (sym (left_later es t (t + 1) (omega arith) (λ s after to. none_until e es s turn.2 (omega arith))) ∙ sym (skipped e es (t + 1) (omega arith))))
    (λ below. rest_of (Some e) es t c later turn.2 (is ∙ skipped e es t below) at ∙ sym (skipped e es (t + 1) (omega arith)))

none_reached : (d : ℕ × Value) (es : List (ℕ × Value)) (t : ℕ) → AreInTurn same_value standing (Some d) es → t ≤ d.0 → entries_until es t ≡ []
none_reached d [] t turn le = refl
none_reached d (e ∷ es) t turn le =
    let less : d.0 < e.0 = turn.1.0 in
    rw (lt-leb e.0 t (omega arith)) (none_reached e es t turn.2 (omega arith))

-- a change at t is the latest one there
latest_of : (o before : Option (ℕ × Value)) (wave : List (ℕ × Value)) (t : ℕ) (c : ℕ × Value) (later : List (ℕ × Value)) →
    AreInTurn same_value standing before wave → c ∷ later ≡ changes_from wave t → c.0 ≡ t → last_or o (entries_until wave t) ≡ Some c
latest_of o before [] t c later turn is at = absurd (cc)
latest_of o before (e ∷ es) t c later turn is at =
    by_time (last_or o (entries_until (e ∷ es) t) ≡ Some c) t e.0
    (λ from.
    let same : c ∷ later ≡ e ∷ changes_from es t = is ∙ kept e es t from in
    let first : c ≡ e = cc in
    let time : e.0 ≡ t = ap (λ d. d.0) (sym first) ∙ at in
    rw (le-leb e.0 t (omega arith), none_reached e es t turn.2 (omega arith)) (cc))
    (λ below. rw (le-leb e.0 t (omega arith)) (latest_of (Some e) (Some e) es t c later turn.2 (is ∙ skipped e es t below) at))

value_of : (wave : List (ℕ × Value)) (t : ℕ) (c : ℕ × Value) (later : List (ℕ × Value)) → IsTimeline same_value standing wave →
    c ∷ later ≡ changes_from wave t → c.0 ≡ t → wave_at wave t ≡ c.1
value_of wave t c later line is at = rw (latest_of None None wave t c later line.in_turn is at) refl

-- At its next change a wave has something left.
pub some_left : (wave : List (ℕ × Value)) (t : ℕ) (left : List (ℕ × Value)) → t < NEVER → IsNext wave t t left → 0 < length left
some_left wave t [] moment next = absurd (let never : t ≡ NEVER = next.first in omega arith)
some_left wave t (c ∷ later) moment next = omega arith

-- the first of what is left is the value
pub line_of : (n : ℕ) (wave : List (ℕ × Value)) (t : ℕ) (left : List (ℕ × Value)) (d : ℕ × Value) → IsTimeline same_value standing wave → t < NEVER → IsNext wave t t left →
    change_line n wave t ≡ value_line n (slice_index_or left 0 d).1
line_of n wave t [] d line moment next = absurd (let never : t ≡ NEVER = next.first in omega arith)
line_of n wave t (c ∷ later) d line moment next =
    rw (next.change moment, value_of wave t c later line next.rest (sym next.first)) refl

-- and behind it stands what is left then
pub next_of : (wave : List (ℕ × Value)) (t : ℕ) (left : List (ℕ × Value)) → IsTimeline same_value standing wave → t < NEVER → IsNext wave t t left →
    IsNext wave (t + 1) (time_of (drop 1 left)) (drop 1 left)
next_of wave t [] line moment next = absurd (let never : t ≡ NEVER = next.first in omega arith)
next_of wave t (c ∷ later) line moment next =
    next_from None wave (t + 1) later line.in_turn (omega arith) (rest_of None wave t c later line.in_turn next.rest (sym next.first))

all_left : (wave : List (ℕ × Value)) → wave ≡ changes_from wave 0
all_left [] = refl
all_left (e ∷ es) = ap (λ l. e ∷ l) (all_left es) ∙ sym (kept e es 0 (omega arith))

-- each wave has a change at 0
pub next_at_start : (wave : List (ℕ × Value)) → IsTimeline same_value standing wave → IsNext wave 0 0 wave
next_at_start [] line = absurd (let begins : 0 < 0 = line.begins in omega arith)
next_at_start (e ∷ es) line =
    let zeroth : e.0 ≡ 0 = line.in_turn.1 in
    subst (λ time. IsNext (e ∷ es) 0 time (e ∷ es)) zeroth (next_from None (e ∷ es) 0 (e ∷ es) line.in_turn (omega arith) (all_left (e ∷ es)))

-- Waves together.

pub some_change : (waves : List (List (ℕ × Value))) (k s : ℕ) → k < length waves → changes_at (wave_in waves k) s ≡ true → some_changes_at waves s ≡ true
some_change [] k s below is = absurd (omega arith)
some_change (wave ∷ waves) zero s below is = rw is refl
some_change (wave ∷ waves) (suc k) s below is =
    elim (changes_at wave s) as (λ b. (b || some_changes_at waves s) ≡ true) [
      | true ↦ refl
      | false ↦ some_change waves k s (omega arith) is
    ]

pub no_change : (waves : List (List (ℕ × Value))) (s : ℕ) → ((k : ℕ) → k < length waves → changes_at (wave_in waves k) s ≡ false) → some_changes_at waves s ≡ false
no_change [] s each = refl
no_change (wave ∷ waves) s each = rw (each 0 (omega arith)) (no_change waves s (λ k below. each (suc k) (omega arith)))
