-- The lines of moments, one after another.
use Rattle.std.proofs.Common.{Bor, ◌≡◌, ◌≢◌, ◌<◌, ◌≤◌, ℕ, zero, suc, ◌+◌, ◌/◌, ◌*◌, true, false, refl, ap, ◌∙◌, List, [], ◌∷◌, ◌++◌, length, append-nil, arith}
use Rattle.std.specs.Prelude.{◌==◌, ◌||◌, nat_lt, slice_index}
use Rattle.std.proofs.lemmas.Bool.{eqb-false, ltb-true, ltb-false}
use Rattle.std.proofs.lemmas.Grind.{common_steps, flat_map-append}
use Rattle.fourstate.specs.declared.value.Value.{Value}
use Rattle.waveform.specs.Timelines.{moments}
use Rattle.vcd.specs.Changes.{change_lines, lines_below, moment_lines, some_changes_at, time_line}
use Rattle.vcd.specs.declared.upcoming.Upcoming.{Upcoming}
use Rattle.vcd.specs.kept.Kept.{IsAhead, IsNext, lefts}
use Rattle.vcd.specs.kept.Waves.{wave_in}
use Rattle.vcd.proofs.UpcomingLemmas.{since_left}
use Rattle.vcd.proofs.WaveLemmas.{next_later, no_change}

-- one moment more
pub below_suc : (waves : List (List (ℕ × Value))) (last t : ℕ) → lines_below waves last (suc t) ≡ lines_below waves last t ++ moment_lines waves last t
below_suc waves last t =
    flat_map-append (moment_lines waves last) (moments t) (t ∷ []) ∙
    ap (λ lines. lines_below waves last t ++ lines) (append-nil (moment_lines waves last t))

moment_none : (waves : List (List (ℕ × Value))) (last t : ℕ) → 0 < t → t < last → some_changes_at waves t ≡ false → moment_lines waves last t ≡ []
moment_none waves last zero after before none = absurd (omega arith)
moment_none waves last (suc t) after before none =
    let other : (suc t == last) ≡ false = grind (arith, common_steps) in
    rw (other, none) refl

moment_some : (waves : List (List (ℕ × Value))) (last t : ℕ) → 0 < t → (t == last || some_changes_at waves t) ≡ true →
    moment_lines waves last t ≡ time_line t ++ change_lines waves t
moment_some waves last zero after some = absurd (omega arith)
moment_some waves last (suc t) after some = rw some refl

-- moments without a change have no lines
skipped : (waves : List (List (ℕ × Value))) (last t n : ℕ) → 0 < t → t ≤ n → n ≤ last → ((s : ℕ) → t ≤ s → s < n → some_changes_at waves s ≡ false) →
    lines_below waves last n ≡ lines_below waves last t
skipped waves last t zero after le end none = absurd (omega arith)
skipped waves last t (suc n) after le end none =
    elim (nat_lt n t) as (λ b. nat_lt n t ≡ b → lines_below waves last (suc n) ≡ lines_below waves last t) [
      | true ↦ λ is.
          let less : n < t = ltb-true n t is in
          let same : suc n ≡ t = omega arith in
          ap (λ m. lines_below waves last m) same
      | false ↦ λ is.
          let least : t ≤ n = ltb-false n t is in
          let here : moment_lines waves last n ≡ [] = moment_none waves last n (omega arith) (omega arith) (none n least (omega arith)) in
          below_suc waves last n ∙ (ap (λ lines. lines_below waves last n ++ lines) here ∙ (append-nil (lines_below waves last n) ∙
          skipped waves last t n after least (omega arith) (λ s from to. none s from (omega arith))))
    ] refl

-- the time of a block is no earlier than that of its group
under_group : (waves : List (List (ℕ × Value))) (u : ℕ) (upcoming : Upcoming) (left : List (Bor (List (ℕ × Value)))) (t : ℕ) → IsAhead waves t 0 upcoming left →
    ((group : ℕ) → group * 256 < length waves → u ≤ slice_index upcoming.first group) → (block : ℕ) → block * 16 < length waves → u ≤ slice_index upcoming.least block
under_group waves u upcoming left t ahead each block inside =
    let group : u ≤ slice_index upcoming.first (block / 16) = each (block / 16) (omega arith) in
    let under : slice_index upcoming.first (block / 16) ≤ slice_index upcoming.least block = ahead.groups.first block inside in
    omega arith

none_between : (waves : List (List (ℕ × Value))) (t u s : ℕ) (upcoming : Upcoming) (left : List (Bor (List (ℕ × Value)))) → IsAhead waves t 0 upcoming left →
    ((group : ℕ) → group * 256 < length waves → u ≤ slice_index upcoming.first group) → t ≤ s → s < u → some_changes_at waves s ≡ false
none_between waves t u s upcoming left ahead each from to =
    no_change waves s
    (λ k below.
    let next : IsNext (wave_in waves k) t (slice_index upcoming.times k) (wave_in (lefts left) k) = rw (since_left t (0 * 16) (k / 16) (omega arith)) at (ahead.blocks.next k below) in
    let least : slice_index upcoming.least (k / 16) ≤ slice_index upcoming.times k = ahead.blocks.least k below in
    let first : u ≤ slice_index upcoming.least (k / 16) = under_group waves u upcoming left t ahead each (k / 16) (omega arith) in
    next.none s from (omega arith))

is_written : (waves : List (List (ℕ × Value))) (last u : ℕ) → u ≤ last → (u < last → some_changes_at waves u ≡ true) → (u == last || some_changes_at waves u) ≡ true
is_written waves last u within change =
    elim (u == last) as (λ b. (u == last) ≡ b → (b || some_changes_at waves u) ≡ true) [
      | true ↦ λ is. refl
      | false ↦ λ is. let other : u ≢ last = eqb-false u last is in change (omega arith)
    ] refl

-- the next moment that is written
pub lines_to : (waves : List (List (ℕ × Value))) (last t u : ℕ) (upcoming : Upcoming) (left : List (Bor (List (ℕ × Value)))) → IsAhead waves (t + 1) 0 upcoming left → t < u → u ≤ last →
    ((group : ℕ) → group * 256 < length waves → u ≤ slice_index upcoming.first group) → (u < last → some_changes_at waves u ≡ true) →
    lines_below waves last (suc u) ≡ lines_below waves last (suc t) ++ (time_line u ++ change_lines waves u)
lines_to waves last t u upcoming left ahead less within each change =
    let empty : lines_below waves last u ≡ lines_below waves last (suc t) =
    skipped waves last (suc t) u (omega arith) (omega arith) within (λ s from to. none_between waves (t + 1) u s upcoming left ahead each (omega arith) to) in
    let here : moment_lines waves last u ≡ time_line u ++ change_lines waves u = moment_some waves last u (omega arith) (is_written waves last u within change) in
    below_suc waves last u ∙ (ap (λ lines. lines ++ moment_lines waves last u) empty ∙ ap (λ lines. lines_below waves last (suc t) ++ lines) here)

-- some time is left for the next one
pub is_later : (waves : List (List (ℕ × Value))) (t : ℕ) (upcoming : Upcoming) (left : List (Bor (List (ℕ × Value)))) → IsAhead waves t 0 upcoming left → (group : ℕ) → group * 256 < length waves →
    t ≤ slice_index upcoming.first group
is_later waves t upcoming left ahead group inside = rw (since_left t 0 group (omega arith)) at (ahead.groups.later group inside)

-- the tables at the next moment that is written
pub ahead_later : (waves : List (List (ℕ × Value))) (t u : ℕ) (upcoming : Upcoming) (left : List (Bor (List (ℕ × Value)))) → IsAhead waves t 0 upcoming left → t ≤ u →
    ((group : ℕ) → group * 256 < length waves → u ≤ slice_index upcoming.first group) → IsAhead waves u 0 upcoming left
ahead_later waves t u upcoming left ahead le each =
    let under : (block : ℕ) → block * 16 < length waves → u ≤ slice_index upcoming.least block = under_group waves u upcoming left t ahead each in
    record {
      blocks = record {
        room = ahead.blocks.room;
        next = λ k below.
            let next : IsNext (wave_in waves k) t (slice_index upcoming.times k) (wave_in (lefts left) k) = rw (since_left t (0 * 16) (k / 16) (omega arith)) at (ahead.blocks.next k below) in
            let least : slice_index upcoming.least (k / 16) ≤ slice_index upcoming.times k = ahead.blocks.least k below in
            let first : u ≤ slice_index upcoming.least (k / 16) = under (k / 16) (omega arith) in
            rw (since_left u (0 * 16) (k / 16) (omega arith))
            (next_later (wave_in waves k) t u _ _ next le (omega arith));
        least = ahead.blocks.least;
        later = λ block inside. rw (since_left u (0 * 16) block (omega arith)) (under block inside);
        change = ahead.blocks.change;
      };
      groups = record {
        first = ahead.groups.first;
        later = λ group inside. rw (since_left u 0 group (omega arith)) (each group inside);
        change = ahead.groups.change;
      };
    }

-- the lines of moment 0
pub first_lines : (waves : List (List (ℕ × Value))) (last : ℕ) → lines_below waves last 1 ≡ moment_lines waves last 0
first_lines waves last = append-nil (moment_lines waves last 0)
