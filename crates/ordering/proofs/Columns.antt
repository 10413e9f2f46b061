-- The cells of a table, row by row, are those of its columns: so the work of a run by moments is that by gates.
use Rattle.std.proofs.Common.{◌≡◌, ◌≤◌, ◌∙◌, sym, ap, subst, refl, Bool, true, false, cond, ℕ, zero, suc, List, [], ◌∷◌, ◌++◌, map, append_assoc, append-nil, arith}
use Rattle.std.specs.Prelude.{IsPermutation, nat_le}
use Rattle.std.specs.List.{filter, flat_map}
use Rattle.std.proofs.lemmas.Bool.Decides.{nat_tests}
use Rattle.std.proofs.lemmas.List.Concat.{flat_map-append}
use Rattle.std.proofs.lemmas.List.Elements.{filter-append}
use Rattle.std.proofs.lemmas.List.Sorted.{IsPermutation-append_right, IsPermutation-refl, IsPermutation-trans}
use Rattle.gatestep.specs.Step.{State, Evaluation}
use Rattle.design.specs.Netlist.{GateEntry, Netlist}
use Rattle.waveform.specs.Timelines.{moments}
use Rattle.scratch.specs.Work.{is_stirred, stirred_at, task_at, work_at, work_below}
use Rattle.scratch.specs.kept.Work.{work_from}
use Rattle.scratch.proofs.Apart.{along, exchange}
use Rattle.scratch.proofs.Moments.{map_twice}
use Rattle.scratch.specs.kept.Grown.{all_parts}
use Rattle.scratch.specs.kept.Open.{all_below, all_from}
use Rattle.scratch.proofs.Asked.{below_is, from_is}
use Rattle.ordering.specs.kept.Gates.{gates_work, gates_work_from, moments_from}

none_each : {T A : Type 0} (ts : List T) → flat_map {X = T} {A = A} (λ t. []) ts ≡ []
none_each [] = refl
none_each (t ∷ ts) = none_each ts

-- two pieces of each row
interleave : {T A : Type 0} (a b : T → List A) (ts : List T) → IsPermutation (flat_map (λ t. a t ++ b t) ts) (flat_map a ts ++ flat_map b ts)
interleave a b [] = IsPermutation-refl []
interleave a b (t ∷ ts) =
    let all = flat_map (λ t. a t ++ b t) ts in let first = flat_map a ts in let second = flat_map b ts in
    along (a t ++ (b t ++ all)) ((a t ++ b t) ++ all) (a t ++ (first ++ (b t ++ second))) ((a t ++ first) ++ (b t ++ second))
    (sym (append_assoc (a t) (b t) all)) (sym (append_assoc (a t) first (b t ++ second)))
    (IsPermutation-append_right (a t) (b t ++ all) (first ++ (b t ++ second))
    (IsPermutation-trans (b t ++ all) (b t ++ (first ++ second)) (first ++ (b t ++ second))
    (IsPermutation-append_right (b t) all (first ++ second) (interleave a b ts)) (exchange (b t) first second)))

module _ {T G A : Type 0} (p : G → T → Bool) (f : G → T → A) where
  abbrev cell : G → T → List A
  cell g t = cond (p g t) (f g t ∷ []) []

  abbrev pub row : List G → T → List A
  row gs t = map (λ g. f g t) (filter (λ g. p g t) gs)

  abbrev pub column : List T → G → List A
  column ts g = map (λ t. f g t) (filter (λ t. p g t) ts)

  row_by : (b : Bool) (g : G) (t : T) (rest : List G) → map (λ g. f g t) (cond b (g ∷ rest) rest) ≡ cond b (f g t ∷ []) [] ++ map (λ g. f g t) rest
  row_by true g t rest = refl
  row_by false g t rest = refl

  column_by : (b : Bool) (g : G) (t : T) (rest : List T) → map (λ t. f g t) (cond b (t ∷ rest) rest) ≡ cond b (f g t ∷ []) [] ++ map (λ t. f g t) rest
  column_by true g t rest = refl
  column_by false g t rest = refl

  row_more : (g : G) (gs : List G) (t : T) → row (g ∷ gs) t ≡ cell g t ++ row gs t
  row_more g gs t = row_by (p g t) g t (filter (λ g. p g t) gs)

  column_is : (g : G) (ts : List T) → column ts g ≡ flat_map (cell g) ts
  column_is g [] = refl
  column_is g (t ∷ ts) = column_by (p g t) g t (filter (λ t. p g t) ts) ∙ ap (λ l. cell g t ++ l) (column_is g ts)

  pub rows_are_columns : (gs : List G) (ts : List T) → IsPermutation (flat_map (row gs) ts) (flat_map (column ts) gs)
  rows_are_columns [] ts = subst (λ l. IsPermutation l []) (sym (none_each ts)) (IsPermutation-refl [])
  rows_are_columns (g ∷ gs) ts =
      let apart : flat_map (λ t. cell g t ++ row gs t) ts ≡ flat_map (row (g ∷ gs)) ts = ap (λ h. flat_map h ts) (λ i t. sym (row_more g gs t) i) in
      let whole = flat_map (cell g) ts ++ flat_map (column ts) gs in
      along (flat_map (λ t. cell g t ++ row gs t) ts) (flat_map (row (g ∷ gs)) ts) whole (flat_map (column ts) (g ∷ gs))
      apart (ap (λ l. l ++ flat_map (column ts) gs) (sym (column_is g ts)))
      (IsPermutation-trans (flat_map (λ t. cell g t ++ row gs t) ts) (flat_map (cell g) ts ++ flat_map (row gs) ts) whole
      (interleave (cell g) (row gs) ts)
      (IsPermutation-append_right (flat_map (cell g) ts) (flat_map (row gs) ts) (flat_map (column ts) gs) (rows_are_columns gs ts)))

passes : (a t : ℕ) → suc t ≤ a → nat_le a t ≡ false
passes a t late = grind (arith, nat_tests)

reaches : (a t : ℕ) → nat_le a t ≡ false → t ≤ a
reaches a t h = grind (arith, nat_tests)

-- no moment before a is from a on
none_before : (a t : ℕ) → t ≤ a → moments_from a t ≡ []
none_before a zero early = refl
none_before a (suc t) early =
    filter-append (λ t. nat_le a t) (moments t) (t ∷ [])
    ∙ ap (λ l. l ++ filter (λ t. nat_le a t) (t ∷ [])) (none_before a t (omega arith))
    ∙ ap (λ (b : Bool). cond b (t ∷ []) []) (passes a t early)

module _ {X : Type 0} (work : ℕ → List X) where
  one_more : (times : List ℕ) (t : ℕ) → flat_map work times ++ work t ≡ flat_map work (times ++ t ∷ [])
  one_more times t = ap (λ l. flat_map work times ++ l) (sym (append-nil (work t))) ∙ sym (flat_map-append work times (t ∷ []))

  each_below : (n : ℕ) → all_below work n ≡ flat_map work (moments n)
  each_below zero = refl
  each_below (suc n) = ap (λ l. l ++ work n) (each_below n) ∙ one_more (moments n) n

  from_by : (a t : ℕ) (b : Bool) → nat_le a t ≡ b → all_from work a t ≡ flat_map work (moments_from a t) →
      cond b (all_from work a t ++ work t) [] ≡ flat_map work (moments_from a t ++ cond b (t ∷ []) [])
  from_by a t true is before = ap (λ l. l ++ work t) before ∙ one_more (moments_from a t) t
  from_by a t false is before = sym (ap (λ l. flat_map work (l ++ [])) (none_before a t (reaches a t is)))

  -- what is asked at the moments from one on, moment after moment
  pub each_from : (a n : ℕ) → all_from work a n ≡ flat_map work (moments_from a n)
  each_from a zero = refl
  each_from a (suc t) =
      from_by a t (nat_le a t) refl (each_from a t)
      ∙ sym (ap (flat_map work) (filter-append (λ t. nat_le a t) (moments t) (t ∷ [])))

module _ (answer : Evaluation → ℕ → State) (d : Netlist) where
  abbrev p : GateEntry → ℕ → Bool
  p g t = is_stirred answer d g t

  abbrev f : GateEntry → ℕ → Evaluation × ℕ
  f g t = (task_at answer d g t, t)

  rows_are : work_at answer d ≡ row p f d.gates
  rows_are = λ i t. map_twice (λ g. task_at answer d g t) (λ task. (task, t)) (stirred_at answer d t) i

  pub below_by_gates : (n : ℕ) → IsPermutation (work_below answer d n) (gates_work answer d n d.gates)
  below_by_gates n =
      let rows : work_below answer d n ≡ flat_map (row p f d.gates) (moments n) =
      sym (below_is answer d n) ∙ each_below (work_at answer d) n ∙ ap (λ work. flat_map work (moments n)) rows_are in
      subst (λ l. IsPermutation l (gates_work answer d n d.gates)) (sym rows) (rows_are_columns p f d.gates (moments n))

  pub from_by_gates : (a n : ℕ) → IsPermutation (work_from answer d a n) (gates_work_from answer d a n d.gates)
  from_by_gates a n =
      let rows : work_from answer d a n ≡ flat_map (row p f d.gates) (moments_from a n) =
      sym (from_is answer d a n) ∙ each_from (work_at answer d) a n ∙ ap (λ work. flat_map work (moments_from a n)) rows_are in
      subst (λ l. IsPermutation l (gates_work_from answer d a n d.gates)) (sym rows) (rows_are_columns p f d.gates (moments_from a n))

  -- the work of the whole run is that from moment 0 on
  pub all_from_first : (n : ℕ) → work_below answer d n ≡ work_from answer d 0 n
  all_from_first n = sym (below_is answer d n) ∙ all_parts (work_at answer d) 0 n (omega arith) ∙ from_is answer d 0 n
