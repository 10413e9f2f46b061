-- Lists in order of time, found by the next moment.
use Rattle.std.proofs.Common.{◌≡◌, ◌<◌, ◌≤◌, ℕ, nat_lt, nat_le, List, [], ◌∷◌, ◌++◌, Option, Some, None, Bool, true, false, refl, ap, arith, sym, subst, ◌∙◌}
use Rattle.std.proofs.lemmas.Bool.Decides.{nat_tests}
use Rattle.std.proofs.lemmas.List.Elements.{filter-append}
use Rattle.std.specs.List.{AllByRecursion, filter}
use Rattle.fourstate.specs.declared.value.Value.{Value}
use Rattle.waveform.specs.Timelines.{entries_after, entries_until, first_after}
use Rattle.waveform.specs.kept.Timelines.{AreInTurn, IsTimeline}
use Rattle.listing.specs.Windows.{changes_between}

abbrev pub AreAbove : ℕ → List (ℕ × Value) → Type 0
AreAbove t xs = AllByRecursion (λ q. t < q.0) xs

-- each moment lies before all later ones
abbrev pub Rises : List (ℕ × Value) → Type 0
Rises [] = Unit {0}
Rises (p ∷ ps) = AreAbove p.0 ps × Rises ps

-- Tests.

pub lt_yes : (a b : ℕ) → a < b → nat_lt a b ≡ true
lt_yes a b h = grind (arith, nat_tests)

pub lt_no : (a b : ℕ) → b ≤ a → nat_lt a b ≡ false
lt_no a b h = grind (arith, nat_tests)

pub le_yes : (a b : ℕ) → a ≤ b → nat_le a b ≡ true
le_yes a b h = grind (arith, nat_tests)

pub le_no : (a b : ℕ) → b < a → nat_le a b ≡ false
le_no a b h = grind (arith, nat_tests)

pub yes_lt : (a b : ℕ) → nat_lt a b ≡ true → a < b
yes_lt a b h = grind (arith, nat_tests)

pub no_lt : (a b : ℕ) → nat_lt a b ≡ false → b ≤ a
no_lt a b h = grind (arith, nat_tests)

-- an entry in front

pub kept : (p : ℕ × Value → Bool) (x : ℕ × Value) (xs ws : List (ℕ × Value)) → p x ≡ true → filter p xs ≡ ws → filter p (x ∷ xs) ≡ x ∷ ws
kept p x xs ws is e = rw is (ap (λ vs. x ∷ vs) e)

pub dropped : (p : ℕ × Value → Bool) (x : ℕ × Value) (xs ws : List (ℕ × Value)) → p x ≡ false → filter p xs ≡ ws → filter p (x ∷ xs) ≡ ws
dropped p x xs ws is e = rw is e

-- what lies above a moment

pub lower : (t u : ℕ) (xs : List (ℕ × Value)) → u ≤ t → AreAbove t xs → AreAbove u xs
lower t u [] le above = tt
lower t u (x ∷ xs) le above = (let h : t < x.0 = above.0 in omega arith, lower t u xs le above.1)

none_until : (t : ℕ) (xs : List (ℕ × Value)) → AreAbove t xs → entries_until xs t ≡ []
none_until t [] above = refl
none_until t (x ∷ xs) above = let h = le_no x.0 t above.0 in rw h (none_until t xs above.1)

-- The next one.

pub next_later : (xs : List (ℕ × Value)) (t : ℕ) (e : ℕ × Value) → first_after xs t ≡ Some e → t < e.0
next_later [] t e found = absurd (cc)
next_later (x ∷ xs) t e found =
    elim (nat_lt t x.0) as (λ b. nat_lt t x.0 ≡ b → t < e.0) [
      | true ↦ λ h. let same : x ≡ e = (let at = rw h at found in cc) in subst (λ (y : ℕ × Value). t < y.0) same (yes_lt t x.0 h)
      | false ↦ λ h. next_later xs t e (rw h at found)
    ] refl

-- the entries up to the next one after a moment
pub until_next : (xs : List (ℕ × Value)) (t : ℕ) (e : ℕ × Value) → Rises xs → first_after xs t ≡ Some e → entries_until xs e.0 ≡ entries_until xs t ++ e ∷ []
until_next [] t e rises found = absurd (cc)
until_next (x ∷ xs) t e rises found =
    elim (nat_lt t x.0) as (λ b. nat_lt t x.0 ≡ b → entries_until (x ∷ xs) e.0 ≡ entries_until (x ∷ xs) t ++ e ∷ []) [
      | true ↦ λ h.
          let same : x ≡ e = (let at = rw h at found in cc) in
          let low : t ≤ x.0 = (let l = yes_lt t x.0 h in omega arith) in
          let here : entries_until (x ∷ xs) x.0 ≡ x ∷ [] = kept (λ q. nat_le q.0 x.0) x xs [] (le_yes x.0 x.0 (omega arith)) (none_until x.0 xs rises.0) in
          let before : entries_until (x ∷ xs) t ≡ [] = dropped (λ q. nat_le q.0 t) x xs [] (le_no x.0 t (yes_lt t x.0 h)) (none_until t xs (lower x.0 t xs low rises.0)) in
          subst (λ (y : ℕ × Value). entries_until (x ∷ xs) y.0 ≡ entries_until (x ∷ xs) t ++ y ∷ []) same (here ∙ sym (ap (λ ws. ws ++ x ∷ []) before))
      | false ↦ λ h.
          let at = rw h at found in
          let later = next_later xs t e at in
          let low = no_lt t x.0 h in
          let here = le_yes x.0 e.0 (omega arith) in
          let before = le_yes x.0 t low in
          rw (here, before) (ap (λ ws. x ∷ ws) (until_next xs t e rises.1 at))
    ] refl

-- where there is none, all lie before
pub until_none : (xs : List (ℕ × Value)) (t u : ℕ) → t ≤ u → first_after xs t ≡ None → entries_until xs u ≡ xs
until_none [] t u le none = refl
until_none (x ∷ xs) t u le none =
    elim (nat_lt t x.0) as (λ b. nat_lt t x.0 ≡ b → entries_until (x ∷ xs) u ≡ x ∷ xs) [
      | true ↦ λ h. absurd (let at = rw h at none in cc)
      | false ↦ λ h.
          let low = no_lt t x.0 h in
          let here = le_yes x.0 u (omega arith) in
          rw here (ap (λ ws. x ∷ ws) (until_none xs t u le (rw h at none)))
    ] refl

-- between a moment and the next one there is none
pub until_between : (xs : List (ℕ × Value)) (t u : ℕ) (e : ℕ × Value) → Rises xs → first_after xs t ≡ Some e → t ≤ u → u < e.0 → entries_until xs u ≡ entries_until xs t
until_between [] t u e rises found le lt = absurd (cc)
until_between (x ∷ xs) t u e rises found le lt =
    elim (nat_lt t x.0) as (λ b. nat_lt t x.0 ≡ b → entries_until (x ∷ xs) u ≡ entries_until (x ∷ xs) t) [
      | true ↦ λ h.
          let same : x ≡ e = (let at = rw h at found in cc) in
          let above : u < x.0 = subst (λ (y : ℕ × Value). u < y.0) (sym same) lt in
          let low : t ≤ x.0 = (let l = yes_lt t x.0 h in omega arith) in
          let high : u ≤ x.0 = omega arith in
          let here : entries_until (x ∷ xs) u ≡ [] = dropped (λ q. nat_le q.0 u) x xs [] (le_no x.0 u above) (none_until u xs (lower x.0 u xs high rises.0)) in
          let before : entries_until (x ∷ xs) t ≡ [] = dropped (λ q. nat_le q.0 t) x xs [] (le_no x.0 t (yes_lt t x.0 h)) (none_until t xs (lower x.0 t xs low rises.0)) in
          here ∙ sym before
      | false ↦ λ h.
          let low = no_lt t x.0 h in
          let here = le_yes x.0 u (omega arith) in
          let before = le_yes x.0 t low in
          rw (here, before) (ap (λ ws. x ∷ ws) (until_between xs t u e rises.1 (rw h at found) le lt))
    ] refl

-- none lies after a moment up to an earlier one
pub none_between : (xs : List (ℕ × Value)) (t u : ℕ) → u ≤ t → entries_after (entries_until xs u) t ≡ []
none_between [] t u le = refl
none_between (x ∷ xs) t u le =
    elim (nat_le x.0 u) as (λ b. nat_le x.0 u ≡ b → entries_after (entries_until (x ∷ xs) u) t ≡ []) [
      | true ↦ λ h.
          let low : x.0 ≤ u = grind (arith, nat_tests) in
          let not = lt_no t x.0 (omega arith) in
          rw h (rw not (none_between xs t u le))
      | false ↦ λ h. rw h (none_between xs t u le)
    ] refl

-- Changes of a wave.

turns_above : (same : Value → Value → Bool) (drift : Value → ℕ → Value) (d : ℕ × Value) (t : ℕ) (xs : List (ℕ × Value)) → t ≤ d.0 → AreInTurn same drift (Some d) xs → AreAbove t xs
turns_above same drift d t [] low turns = tt
turns_above same drift d t (x ∷ xs) low turns =
    let later : d.0 < x.0 = turns.1.0 in (omega arith, turns_above same drift x t xs (omega arith) turns.2)

turns_rise : (same : Value → Value → Bool) (drift : Value → ℕ → Value) (o : Option (ℕ × Value)) (xs : List (ℕ × Value)) → AreInTurn same drift o xs → Rises xs
turns_rise same drift o [] turns = tt
turns_rise same drift o (x ∷ xs) turns = (turns_above same drift x x.0 xs (omega arith) turns.2, turns_rise same drift (Some x) xs turns.2)

pub timeline_rises : (same : Value → Value → Bool) (drift : Value → ℕ → Value) (xs : List (ℕ × Value)) → IsTimeline same drift xs → Rises xs
timeline_rises same drift xs timeline = turns_rise same drift None xs timeline.in_turn

-- one more of the changes between two moments
pub between_next : (xs : List (ℕ × Value)) (from t : ℕ) (e : ℕ × Value) → Rises xs → from ≤ t → first_after xs t ≡ Some e → changes_between xs from e.0 ≡ changes_between xs from t ++ e ∷ []
between_next xs from t e rises low found =
    let later = next_later xs t e found in
    let here : nat_lt from e.0 ≡ true = lt_yes from e.0 (omega arith) in
    let one : entries_after (e ∷ []) from ≡ e ∷ [] = kept (λ q. nat_lt from q.0) e [] [] here refl in
    ap (λ ws. entries_after ws from) (until_next xs t e rises found) ∙ filter-append (λ q. nat_lt from q.0) (entries_until xs t) (e ∷ [])
    ∙ ap (λ ws. changes_between xs from t ++ ws) one

pub change_later : (xs : List (ℕ × Value)) (t : ℕ) (e : ℕ × Value) → first_after xs t ≡ Some e → t < e.0
change_later xs t e found = next_later xs t e found
