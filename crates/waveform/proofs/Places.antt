-- Places in a list of stored entries, each read through f as a moment and a value.
use Rattle.std.proofs.Common.{◌≡◌, ℕ, zero, suc, ◌<◌, ◌≤◌, ◌-◌, ◌∙◌, sym, ap, subst, Bool, true, false, not, Option, Some, List, [], ◌∷◌, map, length, take, drop, get_or, refl, arith, nat_le, nat_lt, ⊎_elim}
use Rattle.std.specs.Prelude.{slice_get}
use Rattle.std.specs.List.{find}
use Rattle.std.specs.List.Sorted.{IsPartitionPoint, IsNonDecreasingBy}
use Rattle.std.proofs.lemmas.Bool.{cases_lt, lt-ltb, lt-leb, le-ltb, le-leb}
use Rattle.std.proofs.lemmas.List.{get_or-map, get_or_read_under, length-map}
use Rattle.waveform.specs.Timelines.{entries_until, entries_after, first_after, next_to}
use Rattle.waveform.specs.kept.Timelines.{AreInTurn}
use Rattle.waveform.proofs.Lists.{filter-map, filter-front, filter-back, find_is, find-and}
use Rattle.waveform.proofs.Turns.{turns_later}

module _ {A B : Type 0} (f : B → ℕ × A) where
  -- the times of entries that follow one another don't fall
  pub times_rise : (same : A → A → Bool) (drift : A → ℕ → A) (before : Option (ℕ × A)) (xs : List B) → AreInTurn same drift before (map f xs) →
      IsNonDecreasingBy (λ x. (f x).0) xs
  times_rise same drift before [] turns i j d le low = omega arith
  times_rise same drift before (x ∷ xs) turns zero zero d le low = omega arith
  times_rise same drift before (x ∷ xs) turns zero (suc j) d le low =
      let below : j < length xs = omega arith in
      let later : (f x).0 < (get_or (map f xs) j (f d)).0 = turns_later same drift (f x) (map f xs) turns.2 j (f d) (rw (length-map xs f) below) in
      let read : get_or (map f xs) j (f d) ≡ f (get_or xs j d) = get_or-map f xs j d (f d) below in
      subst (λ (e : ℕ × A). (f x).0 ≤ e.0) read (omega arith)
  times_rise same drift before (x ∷ xs) turns (suc i) zero d le low = absurd (omega arith)
  times_rise same drift before (x ∷ xs) turns (suc i) (suc j) d le low =
      times_rise same drift (Some (f x)) xs turns.2 i j d (omega arith) (omega arith)

  later_or_not : (t : ℕ) (x : B) → nat_lt t (f x).0 ≡ not (nat_le (f x).0 t)
  later_or_not t x =
      ⊎_elim
      (λ after. lt-ltb t (f x).0 after ∙ ap not (sym (lt-leb (f x).0 t after)))
      (λ until. le-ltb t (f x).0 until ∙ ap not (sym (le-leb (f x).0 t until)))
      (cases_lt t (f x).0)

  -- where times don't fall, an entry at t or before and the next one after t, if there is one, tell how many are at t or before
  pub point_between : (xs : List B) → IsNonDecreasingBy (λ x. (f x).0) xs → (n t : ℕ) → 0 < n → n ≤ length xs →
      (x : B) → x ≡ get_or xs (n - 1) x → (f x).0 ≤ t →
      ((d : B) → n < length xs → t < (f (get_or xs n d)).0) →
      IsPartitionPoint (λ x. nat_le (f x).0 t ≡ true) (λ x. nat_le (f x).0 t ≡ false) xs n
  point_between xs rise n t some within x read until after = (
    (λ k d from below.
        let last : x ≡ get_or xs (n - 1) d = get_or_read_under xs (n - 1) (length xs) x d read (omega arith) refl in
        let order : (f (get_or xs k d)).0 ≤ (f (get_or xs (n - 1) d)).0 = rise k (n - 1) d (omega arith) (omega arith) in
        let low : (f (get_or xs (n - 1) d)).0 ≤ t = subst (λ y. (f y).0 ≤ t) last until in
        le-leb (f (get_or xs k d)).0 t (omega arith)),
    (λ k d from below.
        let order : (f (get_or xs n d)).0 ≤ (f (get_or xs k d)).0 = rise n k d from below in
        let high : t < (f (get_or xs n d)).0 = after d (omega arith) in
        lt-leb (f (get_or xs k d)).0 t (omega arith)),
  )

  -- where the entries before a place are those up to t, so they are as read
  pub front_is_until : (t : ℕ) (xs : List B) (i : ℕ) → i ≤ length xs → IsPartitionPoint (λ x. nat_le (f x).0 t ≡ true) (λ x. nat_le (f x).0 t ≡ false) xs i →
      map f (take i xs) ≡ entries_until (map f xs) t
  front_is_until t xs i within point =
      ap (map f) (sym (filter-front (λ x. nat_le (f x).0 t) xs i within point)) ∙ sym (filter-map f (λ e. nat_le e.0 t) xs)

  -- and the others are those after t
  pub back_is_after : (t : ℕ) (xs : List B) (i : ℕ) → i ≤ length xs → IsPartitionPoint (λ x. nat_le (f x).0 t ≡ true) (λ x. nat_le (f x).0 t ≡ false) xs i →
      map f (drop i xs) ≡ entries_after (map f xs) t
  back_is_after t xs i within point =
      ap (map f) (sym (filter-back (λ x. nat_le (f x).0 t) (λ x. nat_lt t (f x).0) (later_or_not t) xs i within point)) ∙ sym (filter-map f (λ e. nat_lt t e.0) xs)

  first_of_drop : (xs : List B) (i : ℕ) → slice_get (map f (drop i xs)) 0 ≡ slice_get (map f xs) i
  first_of_drop [] zero = refl
  first_of_drop [] (suc i) = refl
  first_of_drop (x ∷ xs) zero = refl
  first_of_drop (x ∷ xs) (suc i) = first_of_drop xs i

  -- the first entry after t is at the place after those up to t
  pub first_after_is : (xs : List B) (i t : ℕ) → map f (drop i xs) ≡ entries_after (map f xs) t → first_after (map f xs) t ≡ slice_get (map f xs) i
  first_after_is xs i t rest =
      find_is (λ e. nat_lt t e.0) (map f xs) ∙ ap (λ ys. slice_get ys 0) (sym rest) ∙ first_of_drop xs i

  -- the next entry of a value is the first of that value from the place after those up to t
  pub next_to_is : (same : A → A → Bool) (xs : List B) (i t : ℕ) (v : A) → map f (drop i xs) ≡ entries_after (map f xs) t →
      next_to same (map f xs) t v ≡ find (λ e. same e.1 v) (map f (drop i xs))
  next_to_is same xs i t v rest =
      find-and (λ e. nat_lt t e.0) (λ e. same e.1 v) (map f xs) ∙ ap (find (λ e. same e.1 v)) (sym rest)
