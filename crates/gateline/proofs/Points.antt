-- The stimulus of an input between two of its points.
use Rattle.std.proofs.Common.{◌≡◌, ◌<◌, ◌≤◌, ◌∙◌, ap, sym, subst, false, not, ℕ, zero, suc, List, [], ◌∷◌, ◌++◌, append_assoc, All, None, arith}
use Rattle.std.specs.List.{filter, last_or}
use Rattle.std.specs.Option.{option_map_or}
use Rattle.std.specs.Prelude.{nat_le}
use Rattle.std.proofs.lemmas.Bool.{le-leb, lt-leb}
use Rattle.std.proofs.lemmas.List.{append-nil}
use Rattle.std.proofs.lemmas.List.Elements.{All-cons, All-head, All-nil, All-push, All-tail, All-weaker, filter-append}
use Rattle.design.proofs.PieceLemmas.{kept_all, kept_none, last_of}
use Rattle.design.proofs.PointLemmas.{rising_head, rising_tail}
use Rattle.design.specs.Netlist.{stimulus}
use Rattle.design.specs.kept.Lawful.{AreRising}
use Rattle.fourstate.specs.Values.{same_value}
use Rattle.fourstate.specs.declared.value.Value.{Value}
use Rattle.fourstate.specs.declared.value.Value.TheVariants.{Unknown}
use Rattle.fourstate.specs.kept.ValueLaws.{same_self}
use Rattle.scratch.proofs.Still.{Stays}
use Rattle.waveform.specs.Changes.{wave_changes_below}
use Rattle.waveform.specs.Entries.{standing}
use Rattle.waveform.specs.Timelines.{is_change}

-- the value of the last one of some points
abbrev value_of : List (ℕ × Value) → Value
value_of points = option_map_or (λ point. point.1) (last_or None points) Unknown

-- where some points have come, and the others come later, the stimulus has the value of the last one that came
stands : (come later : List (ℕ × Value)) (u : ℕ) → All (λ p. p.0 ≤ u) come → All (λ p. u < p.0) later → stimulus (come ++ later) u ≡ value_of come
stands come later u early late =
    ap (λ ps. option_map_or (λ point. point.1) (last_or None ps) Unknown)
    (filter-append (λ (p : ℕ × Value). nat_le p.0 u) come later
    ∙ ap (λ l. l ++ filter (λ p. nat_le p.0 u) later) (kept_all (λ p. nat_le p.0 u) (λ p. p.0 ≤ u) come (λ p h. le-leb p.0 u h) early)
    ∙ ap (λ l. come ++ l) (kept_none (λ p. nat_le p.0 u) (λ p. u < p.0) later (λ p h. lt-leb p.0 u h) late)
    ∙ append-nil come)

-- a function that stays does not change
pub no_change_between : (f : ℕ → Value) (t r : ℕ) → ((u : ℕ) → t ≤ u → u < r → f u ≡ f t) → (k : ℕ) → suc t ≤ k → k < r → is_change same_value standing f k ≡ false
no_change_between f t r still zero high low = absurd (omega arith)
no_change_between f t r still (suc j) high low =
    ap (λ v. not (same_value v (f j))) (still (suc j) (omega arith) low ∙ sym (still j (omega arith) (omega arith)))
    ∙ ap not (same_self (f j))

-- so the stimulus does not change from the moment after a point, or after 0, up to the one at which the next point comes
no_point_between : (points come later : List (ℕ × Value)) (m r : ℕ) → points ≡ come ++ later → 0 < m → All (λ p. p.0 < m) come → All (λ p. r ≤ p.0) later →
    (k : ℕ) → m ≤ k → k < r → is_change same_value standing (stimulus points) k ≡ false
no_point_between points come later zero r is begun early late = absurd (omega arith)
no_point_between points come later (suc m) r is begun early late = no_change_between (stimulus points) m r (λ u high low. at u high low ∙ sym (at m (omega arith) (omega arith)))
  where
    at : (u : ℕ) → m ≤ u → u < r → stimulus points u ≡ value_of come
    at u high low =
        ap (λ ps. stimulus ps u) is
        ∙ stands come later u (All-weaker (λ (p : ℕ × Value). p.0 < suc m) (λ p. p.0 ≤ u) (λ p h. omega arith) come early) (All-weaker (λ (p : ℕ × Value). r ≤ p.0) (λ p. u < p.0) (λ p h. omega arith) later late)

-- The points of an input, gone through in order of time.

-- some points have come, all before m, and of the others, which come later, only one at 0 lies before m
pub record AreApart (points come later : List (ℕ × Value)) (m : ℕ) : Type 0 where
  pub whole : points ≡ come ++ later
  pub rising : AreRising later
  pub early : All (λ p. p.0 < m) come
  pub late : All (λ p. 0 < p.0 → m ≤ p.0) later

-- at first all of them come later
pub all_later : (points later : List (ℕ × Value)) → points ≡ later → AreRising points → AreApart points [] later 1
all_later points later is rising =
    record { whole = is; rising = subst AreRising is rising; early = All-nil (λ (p : ℕ × Value). p.0 < 1); late = λ k d below some. omega arith }

-- where none is left, no change comes
pub none_left : (points come later : List (ℕ × Value)) (m r : ℕ) → AreApart points come later m → later ≡ [] → 0 < m →
    (k : ℕ) → m ≤ k → k < r → is_change same_value standing (stimulus points) k ≡ false
none_left points come later m r apart none begun =
    no_point_between points come later m r apart.whole begun apart.early (subst (All (λ (p : ℕ × Value). r ≤ p.0)) (sym none) (All-nil (λ (p : ℕ × Value). r ≤ p.0)))

-- where p is the next one
module _ (points come left : List (ℕ × Value)) (m : ℕ) (p : ℕ × Value) (later : List (ℕ × Value)) (before : AreApart points come left m) (next : left ≡ p ∷ later) where
  whole : points ≡ come ++ p ∷ later
  whole = before.whole ∙ ap (λ l. come ++ l) next

  whole_then : points ≡ (come ++ p ∷ []) ++ later
  whole_then = whole ∙ sym (append_assoc come (p ∷ []) later)

  rising : AreRising (p ∷ later)
  rising = subst AreRising next before.rising

  after : All (λ q. p.0 < q.0) later
  after = rising_head p later rising

  late : All (λ q. 0 < q.0 → m ≤ q.0) (p ∷ later)
  late = subst (All (λ q. 0 < q.0 → m ≤ q.0)) next before.late

  -- it lies at m or later, unless it is at 0
  late_here : 0 < p.0 → m ≤ p.0
  late_here = All-head (λ (q : ℕ × Value). 0 < q.0 → m ≤ q.0) p later late

  -- once one at 0 has come, m stays
  pub after_first : 0 < m → p.0 ≤ 0 → AreApart points (come ++ p ∷ []) later m
  after_first begun first =
      record {
        whole = whole_then;
        rising = rising_tail p later rising;
        early = All-push (λ (q : ℕ × Value). q.0 < m) come p before.early (omega arith);
        late = All-tail (λ (q : ℕ × Value). 0 < q.0 → m ≤ q.0) p later late;
      }

  early_here : 0 < p.0 → All (λ q. q.0 < p.0) come
  early_here some = let here = late_here some in All-weaker (λ (q : ℕ × Value). q.0 < m) (λ q. q.0 < p.0) (λ q h. omega arith) come before.early

  -- once another one has come, those left lie after it
  pub after_next : 0 < p.0 → AreApart points (come ++ p ∷ []) later (suc p.0)
  after_next some =
      record {
        whole = whole_then;
        rising = rising_tail p later rising;
        early = All-push (λ (q : ℕ × Value). q.0 < suc p.0) come p (All-weaker (λ (q : ℕ × Value). q.0 < p.0) (λ q. q.0 < suc p.0) (λ q h. omega arith) come (early_here some)) (omega arith);
        late = All-weaker (λ (q : ℕ × Value). p.0 < q.0) (λ q. 0 < q.0 → suc p.0 ≤ q.0) (λ q h _. omega arith) later after;
      }

  -- up to it, or an earlier moment, no change comes
  pub none_before : (r : ℕ) → 0 < m → r ≤ p.0 → (k : ℕ) → m ≤ k → k < r → is_change same_value standing (stimulus points) k ≡ false
  none_before r begun low =
      no_point_between points come (p ∷ later) m r whole begun before.early
      (All-cons (λ (q : ℕ × Value). r ≤ q.0) p later low (All-weaker (λ (q : ℕ × Value). p.0 < q.0) (λ q. r ≤ q.0) (λ q h. omega arith) later after))

  pub changes_before : Stays same_value standing → 0 < m → 0 < p.0 → wave_changes_below (stimulus points) p.0 ≡ wave_changes_below (stimulus points) m
  changes_before stays begun some = stays (stimulus points) m p.0 (late_here some) (none_before p.0 begun (omega arith))

  -- it gives the value at its moment
  pub value_there : 0 < p.0 → stimulus points p.0 ≡ p.1
  value_there some =
      ap (λ ps. stimulus ps p.0) whole_then
      ∙ stands (come ++ p ∷ []) later p.0
      (All-push (λ (q : ℕ × Value). q.0 ≤ p.0) come p (All-weaker (λ (q : ℕ × Value). q.0 < p.0) (λ q. q.0 ≤ p.0) (λ q h. omega arith) come (early_here some)) (omega arith)) after
      ∙ ap (λ o. option_map_or (λ (q : ℕ × Value). q.1) o Unknown) (last_of None come p [])
