-- Gates that wait for none of each other.
use Rattle.std.proofs.Common.{◌≡◌, ◌<◌, ◌≤◌, ◌⊎◌, inl, inr, ◌∙◌, sym, ap, subst, refl, Bool, true, ℕ, zero, suc, ◌+◌, ◌-◌, List, [], ◌∷◌, ◌++◌, take, drop, length, get_or, Option, Some, None, IfSome, slice_get, append_assoc, append-nil, add-one, arith}
use Rattle.std.specs.Prelude.{All, nat_eq}
use Rattle.std.specs.Borrow.{Bor}
use Rattle.std.specs.List.{list_all, slice_index_or, slice_range}
use Rattle.std.proofs.lemmas.Bool.{and_parts, cases_lt, or_cases}
use Rattle.std.proofs.lemmas.List.Concat.{flat_map-append}
use Rattle.std.proofs.lemmas.List.Folds.{list_any-append}
use Rattle.std.proofs.lemmas.List.{take-append-drop, get_or_default, length-take, get_or-take, get_or-drop}
use Rattle.gatestep.specs.Step.{State, Evaluation}
use Rattle.gatestep.specs.Jobs.{IsPart}
use Rattle.gatestep.proofs.Jobs.{none_is_part, parts_append, whole_is_part}
use Rattle.design.specs.Netlist.{Netlist}
use Rattle.design.specs.kept.Places.{driver_places}
use Rattle.scratch.specs.Asked.{IsAskedInPart}
use Rattle.scratch.specs.declared.wiring.Input.{Input}
use Rattle.scratch.specs.declared.wiring.Input.TheVariants.{At, Fixed}
use Rattle.scratch.specs.declared.wiring.Wiring.{Wiring}
use Rattle.scratch.specs.kept.Cells.{CellRecord}
use Rattle.scratch.specs.kept.Kept.{IsWiring}
use Rattle.scratch.specs.kept.Places.{has}
use Rattle.gateline.specs.kept.Known.{AreSupplied, AreTraced, IsTraced}
use Rattle.ordering.specs.kept.Come.{HaveCome, IsReady, StayTraced, work_at}
use Rattle.ordering.specs.kept.OldRuns.{OldRunRecord}
use Rattle.waveform.specs.Timelines.{moments}
use Rattle.ordering.specs.kept.Order.{is_marked, is_order, may_come, may_come_by, may_follow, order_work_from}
use Rattle.ordering.proofs.Marks.{come_is, follow_on}
use Rattle.ordering.proofs.Orders.{comes_within}
use Rattle.ordering.proofs.Supplied.{supplied}

pub if_more : {X : Type 0} (o : Option X) (P Q : X → Type 0) → ((x : X) → P x → Q x) → IfSome o P → IfSome o Q
if_more None P Q more h = tt
if_more (Some x) P Q more h = more x h

-- what holds of all holds of what there is
pub if_each : {X : Type 0} (o : Option X) (P : X → Type 0) → ((x : X) → P x) → IfSome o P
if_each None P all = tt
if_each (Some x) P all = all x

module _ (answer : Evaluation → ℕ → State) (d : Netlist) where
  module _ (old new : List (List (ℕ × State))) (stay : StayTraced answer d old new) where
    traced_stays : (places : List ℕ) → AreTraced answer d old places → AreTraced answer d new places
    traced_stays [] h = tt
    traced_stays (p ∷ places) h = (stay p h.0, traced_stays places h.1)

    supplied_stays : (inputs : List Input) → AreSupplied answer d old inputs → AreSupplied answer d new inputs
    supplied_stays [] h = tt
    supplied_stays (At m ∷ inputs) h = (
      if_more (slice_get d.nets m) (λ n. AreTraced answer d old (driver_places d.gates n.name)) (λ n. AreTraced answer d new (driver_places d.gates n.name))
          (λ n. traced_stays (driver_places d.gates n.name)) h.0,
      supplied_stays inputs h.1,
    )
    supplied_stays (Fixed v ∷ inputs) h = supplied_stays inputs h

    -- a gate that is ready stays so
    pub ready_stays : (w : Wiring) (k : ℕ) → IsReady answer d w old k → IsReady answer d w new k
    ready_stays w k ready =
        record {
          there = ready.there;
          supplied =
              if_more (slice_get w.cells.items k) (λ (cell : CellRecord). AreSupplied answer d old cell.inputs) (λ (cell : CellRecord). AreSupplied answer d new cell.inputs)
              (λ cell. supplied_stays cell.inputs) ready.supplied;
        }

    pub all_stay_ready : (w : Wiring) (places : List ℕ) → All (IsReady answer d w old) places → All (IsReady answer d w new) places
    all_stay_ready w places ready = λ k other within. ready_stays w (slice_index_or places k other) (ready k other within)

  -- a gate that may come is ready, where the traces of those that are done are found
  pub comes_ready : (w : Wiring) → IsWiring d w → (traces : List (List (ℕ × State))) (f : ℕ → Bool) → ((p : ℕ) → f p ≡ true → IsTraced answer d traces p) → (k : ℕ) → may_come d f k ≡ true →
      IsReady answer d w traces k
  comes_ready w wired traces f come k may =
      record {
        there = comes_within d f k may;
        supplied = supplied answer d traces f come w.cells.items wired.cells k may;
      }

-- the gates of an order may follow those before any place in it
pub follow_far : (d : Netlist) (order : List ℕ) (i j : ℕ) → i ≤ j → j ≤ length order → may_follow d (take i order) (drop i order) ≡ true → may_follow d (take j order) (drop j order) ≡ true
follow_far d order zero zero low high h = h
follow_far d order (suc i) zero low high h = absurd (omega arith)
follow_far d order (suc i) (suc j) low high h = by (cases_lt j (suc i)) (λ more. follow_far d order (suc i) j more (omega arith) h)
  where
    by : (j < suc i) ⊎ (suc i ≤ j) → (suc i ≤ j → may_follow d (take j order) (drop j order) ≡ true) → may_follow d (take (suc j) order) (drop (suc j) order) ≡ true
    by (inl less) before = let same : suc i ≡ suc j = omega arith in subst (λ n. may_follow d (take n order) (drop n order) ≡ true) same h
    by (inr more) before = let on = (follow_on d order j (omega arith) (before more)).1 in subst (λ n. may_follow d (take n order) (drop n order) ≡ true) (add-one j) on
follow_far d order zero (suc j) low high h = let before = follow_far d order zero j (omega arith) (omega arith) h in let on = (follow_on d order j (omega arith) before).1 in subst (λ n. may_follow d (take n order) (drop n order) ≡ true) (add-one j) on

-- the gates of an order are there
pub order_within : (d : Netlist) (order : List ℕ) → is_order d order ≡ true → All (λ k. k < length d.gates) order
order_within d order ordered k other low =
    let start = (and_parts (may_follow d [] order) (list_all (λ k. has k order) (moments (length d.gates))) ordered).0 in
    let far = follow_far d order 0 k (omega arith) (omega arith) start in
    subst (λ m. m < length d.gates) (get_or_default order k 0 other low)
    (comes_within d (λ p. has p (take k order)) (get_or order k 0) (follow_on d order k low far).0)

none_taken : (n : ℕ) → take {A = ℕ} n [] ≡ []
none_taken zero = refl
none_taken (suc n) = refl

taken_to : (order : List ℕ) (i j : ℕ) → i ≤ j → take j order ≡ take i order ++ slice_range order i j
taken_to order zero j low = let all : j ≡ j - 0 = omega arith in ap (λ n. take n order) all
taken_to order (suc i) zero low = absurd (omega arith)
taken_to [] (suc i) (suc j) low = sym (none_taken (suc j - suc i))
taken_to (k ∷ order) (suc i) (suc j) low =
    let less : j - i ≡ suc j - suc i = omega arith in ap (λ l. k ∷ l) (taken_to order i j (omega arith)) ∙ ap (λ n. k ∷ (take i order ++ take n (drop i order))) less

-- What is asked of gates that come one after another.
module _ (answer : Evaluation → ℕ → State) (d : Netlist) (beside : Option (Bor OldRunRecord)) (a n : ℕ) where
  abbrev work : List ℕ → List (Evaluation × ℕ)
  work order = order_work_from answer d beside a n order

  -- some gates more are asked
  pub some_asked : (order : List ℕ) (i j : ℕ) → i ≤ j → (old was new : List (Evaluation × ℕ)) → was ≡ old ++ work (take i order) → new ≡ was ++ work (slice_range order i j) → new ≡ old ++ work (take j order)
  some_asked order i j low old was new so_far more =
      more ∙ ap (λ l. l ++ work (slice_range order i j)) so_far ∙ append_assoc old (work (take i order)) (work (slice_range order i j))
      ∙ ap (λ l. old ++ l) (sym (flat_map-append (work_at answer d beside a n) (take i order) (slice_range order i j)))
      ∙ ap (λ l. old ++ work l) (sym (taken_to order i j low))

  -- or a part of what is asked of them
  pub some_in_part : (order : List ℕ) (i j : ℕ) → i ≤ j → (old was new : List (Evaluation × ℕ)) → was ≡ old ++ work (take i order) → IsAskedInPart was new (work (slice_range order i j)) →
      IsAskedInPart old new (work order)
  some_in_part order i j low old was new so_far part =
      let before = work (take i order) in let piece = part.0 in let next = work (slice_range order i j) in let later = work (drop j order) in
      let both : IsPart (before ++ piece) (before ++ next) = parts_append before before piece next (whole_is_part before) part.1 in
      let all : IsPart ((before ++ piece) ++ []) ((before ++ next) ++ later) = parts_append (before ++ piece) (before ++ next) [] later both (none_is_part later) in
      let whole : (before ++ next) ++ later ≡ work order =
      ap (λ l. l ++ later) (sym (flat_map-append (work_at answer d beside a n) (take i order) (slice_range order i j)) ∙ ap work (sym (taken_to order i j low)))
      ∙ sym (flat_map-append (work_at answer d beside a n) (take j order) (drop j order)) ∙ ap work (take-append-drop j order) in (
        before ++ piece,
        subst (λ l. IsPart (before ++ piece) l) whole (subst (λ l. IsPart l ((before ++ next) ++ later)) (append-nil (before ++ piece)) all),
        part.2 ∙ ap (λ l. l ++ piece) so_far ∙ append_assoc old before piece,
      )

range_short : (xs : List ℕ) (i j k : ℕ) → k < length (slice_range xs i j) → i + k < j
range_short xs i j k low = let count = length-take (j - i) (drop i xs) in omega (arith, low, count)

-- The gates of an order from a place on, that may come beside the first one.
module _ (answer : Evaluation → ℕ → State) (d : Netlist) (w : Wiring) (wired : IsWiring d w) (traces : List (List (ℕ × State))) (order : List ℕ) (first end : ℕ) (some : first < end) (within : end ≤ length order) where
  -- each of them is ready
  pub gates_ready : (come : List Bool) → HaveCome answer d come traces → ((p : ℕ) → has p (take first order) ≡ true → IsTraced answer d traces p) → may_follow d (take first order) (drop first order) ≡ true →
      ((i : ℕ) → first < i → i < end → may_come_by w (is_marked come) (get_or order i 0) ≡ true) → All (IsReady answer d w traces) (slice_range order first end)
  gates_ready come have traced follow may k other low = subst (IsReady answer d w traces) read (by (cases_lt 0 k))
    where
      at : first + k < end
      at = range_short order first end k low

      inside : first + k < length order
      inside = let before = at in omega arith

      read : get_or order (first + k) 0 ≡ slice_index_or (slice_range order first end) k other
      read = get_or_default order (first + k) 0 other inside ∙ sym (get_or-take (end - first) (drop first order) k other (let before = at in omega arith) ∙ get_or-drop first order k other)

      by : (0 < k) ⊎ (k ≤ 0) → IsReady answer d w traces (get_or order (first + k) 0)
      by (inl more) =
          comes_ready answer d w wired traces (is_marked come) have (get_or order (first + k) 0)
          (sym (come_is d w wired (is_marked come) (get_or order (first + k) 0)) ∙ may (first + k) (omega arith) at)
      by (inr none) =
          let same : first ≡ first + k = omega arith in
          subst (λ n. IsReady answer d w traces (get_or order n 0)) same
          (comes_ready answer d w wired traces (λ p. has p (take first order)) traced (get_or order first 0) (follow_on d order first (omega arith) follow).0)

  -- those before them and they
  pub among : (p : ℕ) → has p (take end order) ≡ true → (has p (take first order) ≡ true) ⊎ (has p (slice_range order first end) ≡ true)
  among p on =
      or_cases (has p (take first order)) (has p (slice_range order first end))
      (sym (list_any-append (nat_eq p) (take first order) (slice_range order first end)) ∙ ap (has p) (sym (taken_to order first end (omega arith))) ∙ on)
