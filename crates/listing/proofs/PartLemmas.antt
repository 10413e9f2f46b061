-- The changes of a part of a wave.
use Rattle.std.proofs.Common.{◌≡◌, ◌+◌, ◌<◌, ◌≤◌, ℕ, zero, suc, nat_lt, nat_le, List, [], ◌∷◌, ◌++◌, Some, None, true, false, refl, ap, add-one, append-nil, zero-add, arith, sym, subst, ◌∙◌}
use Rattle.std.proofs.lemmas.Bool.Decides.{nat_tests}
use Rattle.std.proofs.lemmas.List.Concat.{flat_map-append}
use Rattle.std.specs.List.{flat_map, range_with_len}
use Rattle.fourstate.specs.declared.value.Value.{Value}
use Rattle.fourstate.specs.Values.{same_value}
use Rattle.waveform.specs.Changes.{wave_at}
use Rattle.waveform.specs.Entries.{standing}
use Rattle.waveform.specs.Timelines.{entries_after, entries_until, first_after}
use Rattle.waveform.specs.kept.Timelines.{IsTimeline}
use Rattle.listing.specs.Lines.{part_line}
use Rattle.listing.specs.Parts.{first_parts, has_changes, line_of_part, lines_between, part_start}
use Rattle.listing.specs.Windows.{changes_between}
use Rattle.listing.proofs.Rising.{AreAbove, Rises, dropped, kept, le_yes, lower, lt_no, lt_yes, next_later, no_lt, none_between, timeline_rises, until_between, until_none, yes_lt}

-- what lies above a moment lies after it
after_all : (t : ℕ) (xs : List (ℕ × Value)) → AreAbove t xs → entries_after xs t ≡ xs
after_all t [] above = refl
after_all t (x ∷ xs) above = kept (λ q. nat_lt t q.0) x xs xs (lt_yes t x.0 above.0) (after_all t xs above.1)

until_above : (t u : ℕ) (xs : List (ℕ × Value)) → AreAbove t xs → AreAbove t (entries_until xs u)
until_above t u [] above = tt
until_above t u (x ∷ xs) above =
    elim (nat_le x.0 u) as (λ b. nat_le x.0 u ≡ b → AreAbove t (entries_until (x ∷ xs) u)) [
      | true ↦ λ h. rw h (above.0, until_above t u xs above.1)
      | false ↦ λ h. rw h (until_above t u xs above.1)
    ] refl

-- the changes between two moments are the next one after the first, and those between it and the second
pub between_first : (xs : List (ℕ × Value)) (from to : ℕ) (e : ℕ × Value) → Rises xs → first_after xs from ≡ Some e → e.0 ≤ to → changes_between xs from to ≡ e ∷ changes_between xs e.0 to
between_first [] from to e rises found le = absurd (cc)
between_first (x ∷ xs) from to e rises found le =
    elim (nat_lt from x.0) as (λ b. nat_lt from x.0 ≡ b → changes_between (x ∷ xs) from to ≡ e ∷ changes_between (x ∷ xs) e.0 to) [
      | true ↦ λ h.
          let same : x ≡ e = (let at = rw h at found in cc) in
          let within : x.0 ≤ to = subst (λ (y : ℕ × Value). y.0 ≤ to) (sym same) le in
          let low : from ≤ x.0 = (let l = yes_lt from x.0 h in omega arith) in
          let until : entries_until (x ∷ xs) to ≡ x ∷ entries_until xs to = kept (λ q. nat_le q.0 to) x xs (entries_until xs to) (le_yes x.0 to within) refl in
          let above = until_above x.0 to xs rises.0 in
          let all : entries_after (entries_until xs to) from ≡ entries_until xs to = after_all from (entries_until xs to) (lower x.0 from (entries_until xs to) low above) in
          let mine : changes_between (x ∷ xs) from to ≡ x ∷ entries_until xs to =
          ap (λ ws. entries_after ws from) until ∙ kept (λ q. nat_lt from q.0) x (entries_until xs to) (entries_until xs to) h all in
          let rest : changes_between (x ∷ xs) x.0 to ≡ entries_until xs to =
          ap (λ ws. entries_after ws x.0) until ∙ dropped (λ q. nat_lt x.0 q.0) x (entries_until xs to) (entries_until xs to) (lt_no x.0 x.0 (omega arith)) (after_all x.0 (entries_until xs to) above) in
          subst (λ (y : ℕ × Value). changes_between (x ∷ xs) from to ≡ y ∷ changes_between (x ∷ xs) y.0 to) same (mine ∙ ap (λ ws. x ∷ ws) (sym rest))
      | false ↦ λ h.
          let at = rw h at found in
          let later = next_later xs from e at in
          let low = no_lt from x.0 h in
          let until : entries_until (x ∷ xs) to ≡ x ∷ entries_until xs to = kept (λ q. nat_le q.0 to) x xs (entries_until xs to) (le_yes x.0 to (omega arith)) refl in
          let mine : changes_between (x ∷ xs) from to ≡ changes_between xs from to =
          ap (λ ws. entries_after ws from) until ∙ dropped (λ q. nat_lt from q.0) x (entries_until xs to) (changes_between xs from to) h refl in
          let rest : changes_between (x ∷ xs) e.0 to ≡ changes_between xs e.0 to =
          ap (λ ws. entries_after ws e.0) until ∙ dropped (λ q. nat_lt e.0 q.0) x (entries_until xs to) (changes_between xs e.0 to) (lt_no e.0 x.0 (omega arith)) refl in
          mine ∙ between_first xs from to e rises.1 at le ∙ ap (λ ws. e ∷ ws) (sym rest)
    ] refl

-- there is none where no change follows, or the next one lies later

pub between_none : (xs : List (ℕ × Value)) (from to : ℕ) → first_after xs from ≡ None → changes_between xs from to ≡ []
between_none xs from to none =
    elim (nat_le from to) as (λ b. nat_le from to ≡ b → changes_between xs from to ≡ []) [
      | true ↦ λ h.
          let low : from ≤ to = grind (arith, nat_tests) in
          ap (λ ws. entries_after ws from) (until_none xs from to low none ∙ sym (until_none xs from from (omega arith) none)) ∙ none_between xs from from (omega arith)
      | false ↦ λ h. let high : to ≤ from = grind (arith, nat_tests) in none_between xs from to high
    ] refl

pub between_late : (xs : List (ℕ × Value)) (from to : ℕ) (e : ℕ × Value) → Rises xs → first_after xs from ≡ Some e → to < e.0 → changes_between xs from to ≡ []
between_late xs from to e rises found late =
    elim (nat_le from to) as (λ b. nat_le from to ≡ b → changes_between xs from to ≡ []) [
      | true ↦ λ h.
          let low : from ≤ to = grind (arith, nat_tests) in
          ap (λ ws. entries_after ws from) (until_between xs from to e rises found low late) ∙ none_between xs from from (omega arith)
      | false ↦ λ h. let high : to ≤ from = grind (arith, nat_tests) in none_between xs from to high
    ] refl

-- Whether there is a change.

pub more_there : (xs : List (ℕ × Value)) (from to : ℕ) (e : ℕ × Value) → IsTimeline same_value standing xs → first_after xs from ≡ Some e → has_changes (changes_between xs from to) ≡ nat_le e.0 to
more_there xs from to e timeline found =
    let rises = timeline_rises _ _ xs timeline in
    elim (nat_le e.0 to) as (λ b. nat_le e.0 to ≡ b → has_changes (changes_between xs from to) ≡ nat_le e.0 to) [
      | true ↦ λ h. let le : e.0 ≤ to = grind (arith, nat_tests) in ap has_changes (between_first xs from to e rises found le) ∙ sym h
      | false ↦ λ h. let late : to < e.0 = grind (arith, nat_tests) in ap has_changes (between_late xs from to e rises found late) ∙ sym h
    ] refl

pub no_more : (xs : List (ℕ × Value)) (from to : ℕ) → first_after xs from ≡ None → has_changes (changes_between xs from to) ≡ false
no_more xs from to none = ap has_changes (between_none xs from to none)

-- The line of a part.

pub part_there : (xs : List (ℕ × Value)) (start end : ℕ) (e : ℕ × Value) → IsTimeline same_value standing xs → first_after xs start ≡ Some e → e.0 ≤ end
    → lines_between xs start end ≡ part_line e.0 (wave_at xs start) (wave_at xs end) (has_changes (changes_between xs e.0 end))
part_there xs start end e timeline found le =
    ap (line_of_part (wave_at xs start) (wave_at xs end)) (between_first xs start end e (timeline_rises _ _ xs timeline) found le)

pub part_late : (xs : List (ℕ × Value)) (start end : ℕ) (e : ℕ × Value) → IsTimeline same_value standing xs → first_after xs start ≡ Some e → end < e.0
    → lines_between xs start end ≡ []
part_late xs start end e timeline found late =
    ap (line_of_part (wave_at xs start) (wave_at xs end)) (between_late xs start end e (timeline_rises _ _ xs timeline) found late)

pub part_none : (xs : List (ℕ × Value)) (start end : ℕ) → first_after xs start ≡ None → lines_between xs start end ≡ []
part_none xs start end none = ap (line_of_part (wave_at xs start) (wave_at xs end)) (between_none xs start end none)

-- One part more.

range_more : (a n : ℕ) → range_with_len a (n + 1) ≡ range_with_len a n ++ (a + n) ∷ []
range_more a zero = let e : a ≡ a + 0 = omega arith in ap (λ m. m ∷ []) e
range_more a (suc n) =
    let e : a + 1 + n ≡ a + suc n = omega arith in
    let more : range_with_len (a + 1) (suc n) ≡ range_with_len (a + 1) n ++ (a + 1 + n) ∷ [] = rw (add-one n) at (range_more (a + 1) n) in
    rw (add-one (suc n)) (ap (λ ws. a ∷ ws) (more ∙ ap (λ m. range_with_len (a + 1) n ++ m ∷ []) e))

pub one_part_more : (xs : List (ℕ × Value)) (from to parts count : ℕ)
    → first_parts xs from to parts (count + 1) ≡ first_parts xs from to parts count ++ lines_between xs (part_start from to parts count) (part_start from to parts (count + 1))
one_part_more xs from to parts count =
    let f : ℕ → List ℕ = λ number. lines_between xs (part_start from to parts number) (part_start from to parts (number + 1)) in
    let one : f (0 + count) ++ [] ≡ f count = append-nil (f (0 + count)) ∙ ap f (zero-add count) in
    ap (flat_map f) (range_more 0 count) ∙ flat_map-append f (range_with_len 0 count) ((0 + count) ∷ []) ∙ ap (λ ws. flat_map f (range_with_len 0 count) ++ ws) one
