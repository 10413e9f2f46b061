-- An order of the gates has each of them once.
use Rattle.std.proofs.Common.{◌≡◌, ◌<◌, ◌∙◌, sym, ap, subst, refl, Bool, true, false, not, ℕ, zero, suc, List, [], ◌∷◌, ◌++◌, length, Option, Some, None, slice_get, arith}
use Rattle.std.specs.Prelude.{IsPermutation, nat_eq, ◌||◌, ◌&&◌}
use Rattle.std.specs.Cmp.{both_ways}
use Rattle.std.specs.List.{flat_map, list_all}
use Rattle.std.specs.Option.{option_map_or}
use Rattle.std.proofs.lemmas.Bool.Decides.{nat_tests}
use Rattle.std.proofs.lemmas.List.Folds.{list_all-append}
use Rattle.std.proofs.lemmas.List.Sorted.{IsPermutation-trans}
use Rattle.std.proofs.lemmas.Option.{slice_get_within}
use Rattle.std.proofs.lemmas.Bool.{eqb-true, not-true, and_parts, or_parts}
use Rattle.std.proofs.Math.Bool.{or-true}
use Rattle.gatestep.specs.Step.{State, Evaluation}
use Rattle.design.specs.Netlist.{GateEntry, Netlist}
use Rattle.waveform.specs.Timelines.{moments}
use Rattle.scratch.specs.Asked.{IsPart}
use Rattle.scratch.specs.Work.{task_at}
use Rattle.scratch.specs.kept.Kept.{input_of}
use Rattle.scratch.specs.kept.Places.{has, AreApart}
use Rattle.scratch.specs.kept.Work.{work_from}
use Rattle.gateline.specs.kept.Line.{always_wanted}
use Rattle.ordering.specs.kept.Gates.{IsBeginning, column_of, gate_work_from, gates_work_from, rows_of}
use Rattle.ordering.specs.kept.Order.{each_in_order, is_order, is_ready, may_come, may_follow, order_work_from}
use Rattle.ordering.proofs.Columns.{from_by_gates, rows_are_columns}
use Rattle.scratch.proofs.Among.{has_more, nat_itself}
use Rattle.scratch.proofs.Apart.{same_work}
use Rattle.ordering.proofs.Places.{below, below_apart, by_places}

is_there : {X : Type 0} (p : X → Bool) (o : Option X) → option_map_or p o false ≡ true → (x : X) × (o ≡ Some x)
is_there p None h = absurd (cc)
is_there p (Some x) h = (x, refl)

module _ (d : Netlist) where
  -- a gate that may come is there, and not done
  pub comes_anew : (is_done : ℕ → Bool) (k : ℕ) → may_come d is_done k ≡ true → is_done k ≡ false
  comes_anew is_done k h = not-true (is_done k) ((and_parts (not (is_done k)) _ h).0)

  pub comes_within : (is_done : ℕ → Bool) (k : ℕ) → may_come d is_done k ≡ true → k < length d.gates
  comes_within is_done k h =
      let found = is_there (λ g. list_all (λ c. is_ready d is_done (input_of d c)) g.inputs) (slice_get d.gates k) ((and_parts (not (is_done k)) _ h).1) in
      slice_get_within d.gates k found.0 found.1

  -- the gates that follow are not done
  follow_anew : (done ks : List ℕ) → may_follow d done ks ≡ true → (k : ℕ) → has k ks ≡ true → has k done ≡ false
  follow_anew done [] h k on = absurd (cc)
  follow_anew done (j ∷ ks) h k on = by (nat_eq k j) refl (λ later there. follow_anew (done ++ j ∷ []) ks later k there)
    where
      come : may_come d (λ p. has p done) j ≡ true
      come = (and_parts (may_come d (λ p. has p done) j) (may_follow d (done ++ j ∷ []) ks) h).0

      by : (b : Bool) → nat_eq k j ≡ b → (may_follow d (done ++ j ∷ []) ks ≡ true → has k ks ≡ true → has k (done ++ j ∷ []) ≡ false) → has k done ≡ false
      by true is rest = ap (λ z. has z done) (eqb-true k j is) ∙ comes_anew (λ p. has p done) j come
      by false is rest =
          let later = (and_parts (may_come d (λ p. has p done) j) (may_follow d (done ++ j ∷ []) ks) h).1 in
          (or_parts (has k done) (nat_eq k j) (sym (has_more k j done) ∙ rest later (sym (ap (λ (b : Bool). b || has k ks) is) ∙ on))).0

  follow_apart : (done ks : List ℕ) → may_follow d done ks ≡ true → AreApart ks
  follow_apart done [] h = tt
  follow_apart done (j ∷ ks) h = (by (has j ks) refl, follow_apart (done ++ j ∷ []) ks later)
    where
      later : may_follow d (done ++ j ∷ []) ks ≡ true
      later = (and_parts (may_come d (λ p. has p done) j) (may_follow d (done ++ j ∷ []) ks) h).1

      by : (b : Bool) → has j ks ≡ b → has j ks ≡ false
      by true is =
          let off = follow_anew (done ++ j ∷ []) ks later j is in
          let on : has j (done ++ j ∷ []) ≡ true = has_more j j done ∙ ap (λ (b : Bool). has j done || b) (nat_itself j) ∙ or-true (has j done) in
          absurd (cc)
      by false is = is

  follow_within : (done ks : List ℕ) → may_follow d done ks ≡ true → (k : ℕ) → has k ks ≡ true → k < length d.gates
  follow_within done [] h k on = absurd (cc)
  follow_within done (j ∷ ks) h k on = by (nat_eq k j) refl (λ later there. follow_within (done ++ j ∷ []) ks later k there)
    where
      by : (b : Bool) → nat_eq k j ≡ b → (may_follow d (done ++ j ∷ []) ks ≡ true → has k ks ≡ true → k < length d.gates) → k < length d.gates
      by true is rest =
          let low = comes_within (λ p. has p done) j ((and_parts (may_come d (λ p. has p done) j) (may_follow d (done ++ j ∷ []) ks) h).0) in
          subst (λ z. z < length d.gates) (sym (eqb-true k j is)) low
      by false is rest =
          let later = (and_parts (may_come d (λ p. has p done) j) (may_follow d (done ++ j ∷ []) ks) h).1 in
          rest later (sym (ap (λ (b : Bool). b || has k ks) is) ∙ on)

pub all_below : (p : ℕ → Bool) (n : ℕ) → list_all p (moments n) ≡ true → (k : ℕ) → k < n → p k ≡ true
all_below p zero h k low = absurd (omega arith)
all_below p (suc n) h k low = by (nat_eq k n) refl (all_below p n)
  where
    parts : (list_all p (moments n) && list_all p (n ∷ [])) ≡ true
    parts = sym (list_all-append p (moments n) (n ∷ [])) ∙ h

    by : (b : Bool) → nat_eq k n ≡ b → (list_all p (moments n) ≡ true → (k : ℕ) → k < n → p k ≡ true) → p k ≡ true
    by true is rest = ap p (eqb-true k n is) ∙ (and_parts (p n) true ((and_parts (list_all p (moments n)) (p n && true) parts).1)).0
    by false is rest =
        let less : k < n = grind (arith, nat_tests) in
        rest ((and_parts (list_all p (moments n)) (p n && true) parts).0) k less

module _ (d : Netlist) (order : List ℕ) (ordered : is_order d order ≡ true) where
  follows : may_follow d [] order ≡ true
  follows = (and_parts (may_follow d [] order) (list_all (λ k. has k order) (moments (length d.gates))) ordered).0

  all : list_all (λ k. has k order) (moments (length d.gates)) ≡ true
  all = (and_parts (may_follow d [] order) (list_all (λ k. has k order) (moments (length d.gates))) ordered).1

  has_each : (k : ℕ) → has k (moments (length d.gates)) ≡ has k order
  has_each k =
      both_ways (has k (moments (length d.gates))) (has k order)
      (λ h. all_below (λ k. has k order) (length d.gates) all k (let low = sym (below k (length d.gates)) ∙ h in grind (arith, nat_tests)))
      (λ h. below k (length d.gates) ∙ (let low = follow_within d [] order follows k h in grind (arith, nat_tests)))

  -- something of each gate, in the order of the gates or in this one
  pub each_ordered : (f : GateEntry → List (Evaluation × ℕ)) → IsPermutation (flat_map f d.gates) (each_in_order d (λ k g. f g) order)
  each_ordered f =
      let places : flat_map (λ k. option_map_or f (slice_get d.gates k) []) (moments (length d.gates)) ≡ flat_map f d.gates = by_places f d.gates in
      subst (λ l. IsPermutation l (each_in_order d (λ k g. f g) order)) places
      (same_work (λ k. option_map_or f (slice_get d.gates k) []) (moments (length d.gates)) order (below_apart (length d.gates)) (follow_apart d [] order follows) has_each)

  -- the tasks at some moments, moment after moment or gate after gate
  pub rows_ordered : (answer : Evaluation → ℕ → State) (asks : GateEntry → ℕ → Bool) (times : List ℕ) →
      IsPermutation (rows_of answer d asks times) (each_in_order d (λ k g. column_of answer d asks times g) order)
  rows_ordered answer asks times =
      let columns = column_of answer d asks times in
      IsPermutation-trans (rows_of answer d asks times) (flat_map columns d.gates) (each_in_order d (λ k g. columns g) order)
      (rows_are_columns asks (λ g t. (task_at answer d g t, t)) d.gates times) (each_ordered columns)

  pub work_ordered : (answer : Evaluation → ℕ → State) (a n : ℕ) → IsPermutation (work_from answer d a n) (order_work_from answer d None a n order)
  work_ordered answer a n =
      IsPermutation-trans (work_from answer d a n) (gates_work_from answer d a n d.gates) (order_work_from answer d None a n order) (from_by_gates answer d a n)
      (each_ordered (λ g. gate_work_from answer d always_wanted g a n))

-- a beginning of a list is a part of one with the same elements in another order
pub begun_is_part : {A : Type 0} (work whole piece : List A) → IsPermutation work whole → IsBeginning piece whole → IsPart piece work
begun_is_part work whole piece same begun = (begun.0, subst (λ l. IsPermutation work l) begun.1 same)
