-- The gaps of an order, and how many stand before a cell.
use Rattle.std.proofs.Common.{◌≡◌, ◌⊎◌, ℕ, zero, suc, ◌+◌, ◌*◌, ◌<◌, ◌≤◌, List, [], ◌∷◌, ◌++◌, length, take, get_or, Option, Some, None, IsSome, is_some, slice_get, unwrap_or, sym, refl, ap, subst, inl, inr, ◌∙◌, arith}
use Rattle.std.proofs.lemmas.List.{length_push}
use Rattle.std.proofs.lemmas.Option.{same_Some, slice_get_within}
use Rattle.std.specs.List.{filter, insert, slice_set}
use Rattle.catalog.specs.kept.Columns.{cell_at, entries_in}
use Rattle.catalog.specs.kept.Gaps.{AreCounts, AreMarks, Splits, gaps_from}
use Rattle.catalog.specs.declared.ascending.TheConstants.{STRIDE}

-- the numbers behind the first one
splits_tail : (n : ℕ) (numbers : List ℕ) (limit count : ℕ) → Splits (n ∷ numbers) limit (suc count) → Splits numbers limit count
splits_tail n numbers limit count h = record {
  within = omega (arith, h.within);
  up_to = λ i last. h.up_to (suc i) (ap suc last);
  past = λ more. h.past (omega arith);
}

module _ {R : Type 0} where
  -- each gap stands at its place among the gaps at least
  pub gap_low : (i : ℕ) (cells : List (Option R)) (k : ℕ) → k < length (gaps_from i cells) → i + k ≤ get_or (gaps_from i cells) k 0
  gap_low i [] k within = absurd (omega arith)
  gap_low i (None ∷ cells) zero within = omega arith
  gap_low i (None ∷ cells) (suc k) within = let rest = gap_low (suc i) cells k (omega arith) in omega (arith, rest)
  gap_low i (Some e ∷ cells) k within = let rest = gap_low (suc i) cells k within in omega (arith, rest)

  pub gaps_push : (i : ℕ) (cells : List (Option R)) (e : R) → gaps_from i (cells ++ Some e ∷ []) ≡ gaps_from i cells
  gaps_push i [] e = refl
  gaps_push i (None ∷ cells) e = ap (λ l. i ∷ l) (gaps_push (suc i) cells e)
  gaps_push i (Some d ∷ cells) e = gaps_push (suc i) cells e

module _ {R : Type 0} where
  pub gaps_set : (i : ℕ) (cells : List (Option (ℕ × R))) (k : ℕ) (e d : ℕ × R) → cell_at cells k ≡ Some e → gaps_from i (slice_set cells k (Some d)) ≡ gaps_from i cells
  gaps_set i [] k e d at = cc
  gaps_set i (None ∷ cells) zero e d at = cc
  gaps_set i (None ∷ cells) (suc k) e d at = ap (λ l. i ∷ l) (gaps_set (suc i) cells k e d at)
  gaps_set i (Some x ∷ cells) zero e d at = refl
  gaps_set i (Some x ∷ cells) (suc k) e d at = gaps_set (suc i) cells k e d at

  pub some_cell : (o : Option (ℕ × R)) → IsSome o → (e : ℕ × R) × (o ≡ Some e)
  some_cell None some = cc
  some_cell (Some e) some = (e, refl)

  -- the entries of the first cells, one cell on
  pub filtered_more : (cells : List (Option (ℕ × R))) (n m : ℕ) (e : ℕ × R) → m ≡ n + 1 → cell_at cells n ≡ Some e → filter (λ cell. is_some cell) (take m cells) ≡ filter (λ cell. is_some cell) (take n cells) ++ Some e ∷ []
  filtered_more cells n zero e next at = absurd (omega (arith, next))
  filtered_more [] n (suc m) e next at = cc
  filtered_more (None ∷ cells) zero (suc m) e next at = cc
  filtered_more (Some d ∷ cells) zero (suc zero) e next at = ap (λ x. Some x ∷ []) (same_Some d e at)
  filtered_more (Some d ∷ cells) zero (suc (suc m)) e next at = absurd (omega (arith, next))
  filtered_more (None ∷ cells) (suc n) (suc m) e next at = filtered_more cells n m e (omega (arith, next)) at
  filtered_more (Some d ∷ cells) (suc n) (suc m) e next at = ap (λ l. Some d ∷ l) (filtered_more cells n m e (omega (arith, next)) at)

  pub filtered_still : (cells : List (Option (ℕ × R))) (n m : ℕ) → m ≡ n + 1 → n < length cells → cell_at cells n ≡ None → filter (λ cell. is_some cell) (take m cells) ≡ filter (λ cell. is_some cell) (take n cells)
  filtered_still cells n zero next within gap = absurd (omega (arith, next))
  filtered_still [] n (suc m) next within gap = absurd (omega arith)
  filtered_still (None ∷ cells) zero (suc zero) next within gap = refl
  filtered_still (None ∷ cells) zero (suc (suc m)) next within gap = absurd (omega (arith, next))
  filtered_still (Some e ∷ cells) zero (suc m) next within gap = cc
  filtered_still (None ∷ cells) (suc n) (suc m) next within gap = filtered_still cells n m (omega (arith, next)) (omega arith) gap
  filtered_still (Some d ∷ cells) (suc n) (suc m) next within gap = ap (λ l. Some d ∷ l) (filtered_still cells n m (omega (arith, next)) (omega arith) gap)

  -- no gap stands before the first cell
  none_before : (i : ℕ) (cells : List (Option (ℕ × R))) (limit count : ℕ) → limit ≤ i → Splits (gaps_from (suc i) cells) limit count → count ≡ zero
  none_before i cells limit zero low h = refl
  none_before i cells limit (suc k) low h =
      let at = gap_low (suc i) cells k (omega (arith, h.within)) in
      let most = h.up_to k refl in
      absurd (omega (arith, at, most))

  -- a gap more
  pub gaps_clear : (i : ℕ) (cells : List (Option (ℕ × R))) (k x count : ℕ) (e : ℕ × R) → x ≡ i + k → cell_at cells k ≡ Some e → Splits (gaps_from i cells) x count → insert (gaps_from i cells) count x ≡ gaps_from i (slice_set cells k None)
  gaps_clear i [] k x count e is at h = cc
  gaps_clear i (None ∷ cells) zero x count e is at h = cc
  gaps_clear i (None ∷ cells) (suc k) x zero e is at h = let past = h.past (omega arith) in absurd (omega (arith, past))
  gaps_clear i (None ∷ cells) (suc k) x (suc count) e is at h =
      ap (λ l. i ∷ l) (gaps_clear (suc i) cells k x count e (omega arith) at (splits_tail i (gaps_from (suc i) cells) x count h))
  gaps_clear i (Some d ∷ cells) zero x count e is at h =
      let none = none_before i cells x count (omega arith) h in
      let here : x ≡ i = omega arith in
      ap (λ n. insert (gaps_from (suc i) cells) n x) none ∙ ap (λ n. n ∷ gaps_from (suc i) cells) here
  gaps_clear i (Some d ∷ cells) (suc k) x count e is at h = gaps_clear (suc i) cells k x count e (omega arith) at h

  -- the entries and the gaps before an entry are all cells before it
  pub place_counted : (i : ℕ) (cells : List (Option (ℕ × R))) (k x count : ℕ) (e : ℕ × R) → x ≡ i + k → cell_at cells k ≡ Some e → Splits (gaps_from i cells) x count → length (entries_in (take k cells)) + count ≡ k
  place_counted i [] k x count e is at h = cc
  place_counted i (None ∷ cells) zero x count e is at h = cc
  place_counted i (None ∷ cells) (suc k) x zero e is at h = let past = h.past (omega arith) in absurd (omega (arith, past))
  place_counted i (None ∷ cells) (suc k) x (suc count) e is at h =
      let rest = place_counted (suc i) cells k x count e (omega arith) at (splits_tail i (gaps_from (suc i) cells) x count h) in
      omega (arith, rest)
  place_counted i (Some d ∷ cells) zero x count e is at h = let none = none_before i cells x count (omega arith) h in omega (arith, none)
  place_counted i (Some d ∷ cells) (suc k) x count e is at h =
      let rest = place_counted (suc i) cells k x count e (omega arith) at h in
      omega (arith, rest)

  -- behind so many gaps stands the entry of a place
  index_counted : (i : ℕ) (cells : List (Option (ℕ × R))) (place count : ℕ) → place < length (entries_in cells) → count ≤ length (gaps_from i cells) → ((k : ℕ) → suc k ≡ count → get_or (gaps_from i cells) k 0 < i + place + count) → (count < length (gaps_from i cells) → i + place + count < get_or (gaps_from i cells) count 0) → cell_at cells (place + count) ≡ slice_get (entries_in cells) place
  index_counted i [] place count there within up_to past = absurd (omega arith)
  index_counted i (None ∷ cells) place zero there within up_to past = let later = past (omega arith) in absurd (omega (arith, later))
  index_counted i (None ∷ cells) place (suc count) there within up_to past =
      let next : place + suc count ≡ suc (place + count) = omega arith in
      ap (λ n. cell_at (None ∷ cells) n) next
      ∙ index_counted (suc i) cells place count there (omega arith) (λ k last. let low = up_to (suc k) (ap suc last) in omega (arith, low)) (λ more. let later = past (omega arith) in omega (arith, later))
  index_counted i (Some e ∷ cells) zero zero there within up_to past = refl
  index_counted i (Some e ∷ cells) zero (suc count) there within up_to past =
      let low = gap_low (suc i) cells count (omega arith) in
      let high = up_to count refl in
      absurd (omega (arith, low, high))
  index_counted i (Some e ∷ cells) (suc place) count there within up_to past =
      let next : suc place + count ≡ suc (place + count) = omega arith in
      ap (λ n. cell_at (Some e ∷ cells) n) next
      ∙ index_counted (suc i) cells place count (omega arith) within (λ k last. let low = up_to k last in omega (arith, low)) (λ more. let later = past more in omega (arith, later))

  pub index_by_counts : (cells : List (Option (ℕ × R))) (counts : List ℕ) (place count : ℕ) → place < length (entries_in cells) → AreCounts (gaps_from 0 cells) counts → Splits counts place count → cell_at cells (place + count) ≡ slice_get (entries_in cells) place
  index_by_counts cells counts place count there are h =
      index_counted 0 cells place count there (omega (arith, h.within, are.all))
      (λ k last. let low = h.up_to k last in let same = are.each k (omega (arith, h.within, are.all)) in omega (arith, low, same))
      (λ more. let high = h.past (omega (arith, are.all)) in let same = are.each count more in omega (arith, high, same))

-- Marks.

get_push : {X : Type 0} (xs : List X) (x y : X) (i : ℕ) → slice_get (xs ++ x ∷ []) i ≡ Some y → (slice_get xs i ≡ Some y) ⊎ ((i ≡ length xs) × (x ≡ y))
get_push [] x y zero at = inr (refl, same_Some x y at)
get_push [] x y (suc i) at = inl at
get_push (z ∷ xs) x y zero at = inl at
get_push (z ∷ xs) x y (suc i) at = elim (get_push xs x y i at) [ inl old ↦ inl old | inr new ↦ inr (ap suc new.0, new.1) ]

-- a mark more
pub marks_push : (numbers marks : List ℕ) (place mark next : ℕ) → AreMarks numbers marks → length marks ≡ place → ((i : ℕ) → suc i ≡ place → slice_get marks i ≡ Some mark) → Splits numbers (place * STRIDE) next → mark ≤ next → AreMarks numbers (marks ++ next ∷ [])
marks_push numbers marks place mark next are all last splits more = record {
  each = λ i m at.
      elim (get_push marks next m i at) [
        | inl old ↦ are.each i m old
        | inr new ↦ subst (λ n. Splits numbers (n * STRIDE) m) (sym (new.0 ∙ all)) (subst (λ n. Splits numbers (place * STRIDE) n) new.1 splits)
      ];
  rising = λ i m n at after.
      elim (get_push marks next n (suc i) after) [
        | inl old ↦
            elim (get_push marks next m i at) [
              | inl first ↦ are.rising i m n first old
              | inr new ↦ let within = slice_get_within marks (suc i) n old in let here = new.0 in absurd (omega (arith, within, here))
            ]
        | inr new ↦
            elim (get_push marks next m i at) [
              | inl first ↦ let same : m ≡ mark = same_Some m mark (sym first ∙ last i (new.0 ∙ all)) in let end = new.1 in omega (arith, same, end, more)
              | inr again ↦ let here = again.0 in let there = new.0 in absurd (omega (arith, here, there))
            ]
      ];
}

get_last : {X : Type 0} (xs : List X) (x : X) (i : ℕ) → i ≡ length xs → slice_get (xs ++ x ∷ []) i ≡ Some x
get_last [] x zero end = refl
get_last [] x (suc i) end = absurd (omega (arith, end))
get_last (y ∷ xs) x zero end = absurd (omega (arith, end))
get_last (y ∷ xs) x (suc i) end = get_last xs x i (omega (arith, end))

-- so many marks, of which the last one is this, and how far it goes
pub record AreMarked (numbers marks : List ℕ) (place mark : ℕ) : Type 0 where
  pub each : AreMarks numbers marks
  pub all : length marks ≡ place
  pub last : (i : ℕ) → suc i ≡ place → slice_get marks i ≡ Some mark
  pub within : mark ≤ length numbers
  pub up_to : (i : ℕ) → suc i ≡ mark → get_or numbers i 0 ≤ place * STRIDE

pub marked_more : (numbers marks : List ℕ) (place mark next : ℕ) → AreMarked numbers marks place mark → Splits numbers (place * STRIDE) next → mark ≤ next → AreMarked numbers (marks ++ next ∷ []) (place + 1) next
marked_more numbers marks place mark next are splits more = record {
  each = marks_push numbers marks place mark next are.each are.all are.last splits more;
  all = length_push marks next ∙ ap (λ n. n + 1) are.all;
  last = λ i end. get_last marks next i (omega (arith, end, are.all));
  within = splits.within;
  up_to = λ i end. let most = splits.up_to i end in omega (arith, most);
}

-- what a search between two counts asks of them
pub record AreAround (numbers : List ℕ) (limit low high : ℕ) : Type 0 where
  pub within : high ≤ length numbers
  pub rising : low ≤ high
  pub up_to : (i : ℕ) → suc i ≡ low → get_or numbers i 0 ≤ limit
  pub past : high < length numbers → limit < get_or numbers high 0

pub marks_around : (numbers marks : List ℕ) (mark limit : ℕ) → AreMarks numbers marks → mark * STRIDE ≤ limit → limit < suc mark * STRIDE → AreAround numbers limit (unwrap_or (slice_get marks mark) 0) (unwrap_or (slice_get marks (suc mark)) (length numbers))
marks_around numbers marks mark limit are below above = step (slice_get marks mark) (slice_get marks (suc mark)) refl refl
  where
    step : (low high : Option ℕ) → slice_get marks mark ≡ low → slice_get marks (suc mark) ≡ high → AreAround numbers limit (unwrap_or low 0) (unwrap_or high (length numbers))
    step None None l h = record { within = omega arith; rising = omega arith; up_to = λ i none. absurd (omega (arith, none)); past = λ more. absurd (omega (arith, more)) }
    step (Some low) None l h =
        let at = are.each mark low l in
        record { within = omega arith; rising = at.within; up_to = λ i last. let most = at.up_to i last in omega (arith, most, below); past = λ more. absurd (omega (arith, more)) }
    step None (Some high) l h =
        let at = are.each (suc mark) high h in
        record { within = at.within; rising = omega arith; up_to = λ i none. absurd (omega (arith, none)); past = λ more. let least = at.past more in omega (arith, least, above) }
    step (Some low) (Some high) l h =
        let first = are.each mark low l in
        let at = are.each (suc mark) high h in
        record {
          within = at.within;
          rising = are.rising mark low high l h;
          up_to = λ i last. let most = first.up_to i last in omega (arith, most, below);
          past = λ more. let least = at.past more in omega (arith, least, above);
        }
