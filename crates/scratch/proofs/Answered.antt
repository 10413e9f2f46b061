-- The gates of a moment, asked one after another in any order.
use Rattle.std.proofs.Common.{◌≡◌, ◌<◌, ◌∙◌, sym, ap, subst, refl, cond, Bool, true, false, ℕ, suc, ◌+◌, List, [], ◌∷◌, ◌++◌, map, take, drop, length, Option, Some, None, slice_get, add-one, append-nil, append_assoc, arith}
use Rattle.std.specs.Prelude.{IsPermutation, IfNone, IfSome, is_some, nat_eq, ◌&&◌}
use Rattle.std.specs.List.{filter, flat_map}
use Rattle.std.specs.Option.{option_map, option_map_or}
use Rattle.std.proofs.lemmas.List.{length-append, length-map, take-append-drop}
use Rattle.std.proofs.lemmas.List.Concat.{flat_map-append}
use Rattle.std.proofs.lemmas.Option.{slice_get-map, slice_get_within}
use Rattle.std.proofs.lemmas.Map.Keys.{any_passes_from_place}
use Rattle.fourstate.specs.declared.value.Value.{Value}
use Rattle.gatestep.specs.Step.{State, Evaluation}
use Rattle.design.specs.Netlist.{GateEntry, Netlist}
use Rattle.scratch.specs.Asked.{IsAskedInPart, IsAskedInSomeOrder}
use Rattle.scratch.specs.kept.Cells.{CellRecord}
use Rattle.scratch.specs.kept.Kept.{cell_of, evaluation_from}
use Rattle.scratch.specs.kept.Open.{asked_at, is_open_at, open_work_at}
use Rattle.scratch.specs.kept.Places.{AreApart, has, passing}
use Rattle.scratch.specs.Run.{state_before, value}
use Rattle.scratch.specs.Work.{is_stirred, task_at}
use Rattle.scratch.proofs.Among.{nat_itself}
use Rattle.scratch.proofs.Apart.{apart_rising, same_work}
use Rattle.scratch.proofs.Lists.{take_next}
use Rattle.scratch.proofs.Moments.{evaluation_is, map_twice}
use Rattle.scratch.proofs.Passing.{has_place, in_list, passing_rises}

-- what is at the places of the elements that pass, each element that is open as a piece of work
module _ {X A : Type 0} (wants test : X → Bool) (f : ℕ → List A) (h : X → A) where
  passed_by : (a : ℕ) (x : X) (xs : List X) (b o : Bool) → test x ≡ b → wants x ≡ o → f a ≡ cond o (h x ∷ []) [] →
      flat_map f (passing test (a + 1) xs) ≡ map h (filter (λ y. wants y && test y) xs) →
      flat_map f (passing test a (x ∷ xs)) ≡ map h (filter (λ y. wants y && test y) (x ∷ xs))
  passed_by a x xs true true t o is later = rw (t, o) (ap (λ l. l ++ flat_map f (passing test (a + 1) xs)) is ∙ ap (λ l. h x ∷ l) later)
  passed_by a x xs true false t o is later = rw (t, o) (ap (λ l. l ++ flat_map f (passing test (a + 1) xs)) is ∙ later)
  passed_by a x xs false true t o is later = rw (t, o) later
  passed_by a x xs false false t o is later = rw (t, o) later

  pub passed : (a : ℕ) (xs : List X) → ((k : ℕ) (x : X) → slice_get xs k ≡ Some x → f (a + k) ≡ cond (wants x) (h x ∷ []) []) →
      flat_map f (passing test a xs) ≡ map h (filter (λ y. wants y && test y) xs)
  passed a [] is = refl
  passed a (x ∷ xs) is =
      let none : a + 0 ≡ a = omega arith in
      passed_by a x xs (test x) (wants x) refl refl (ap f (sym none) ∙ is 0 x refl)
      (passed (a + 1) xs (λ k y at. let e : a + 1 + k ≡ a + suc k = omega arith in ap f e ∙ is (suc k) y at))

-- what holds where there is something, or nothing
pub when_some : {X : Type 0} (o : Option X) (P : Type 0) → is_some o ≡ true → IfSome o (λ _. P) → P
when_some None P is holds = absurd (cc)
when_some (Some x) P is holds = holds

pub when_none : {X : Type 0} (o : Option X) (P : Type 0) → is_some o ≡ false → IfNone o P → P
when_none None P is holds = holds
when_none (Some x) P is holds = absurd (cc)

-- an element behind others
at_end : {X : Type 0} (xs : List X) (y : X) (ys : List X) → slice_get (xs ++ y ∷ ys) (length xs) ≡ Some y
at_end [] y ys = refl
at_end (x ∷ xs) y ys = at_end xs y ys

module _ (is_open : GateEntry → ℕ → Bool) (answer : Evaluation → ℕ → State) (d : Netlist) (t : ℕ) where
  abbrev stirred : GateEntry → Bool
  stirred g = is_stirred answer d g t

  abbrev asks : ℕ → List (Evaluation × ℕ)
  asks = asked_at is_open answer d t

  -- what is asked of the stirred gates, one after another
  pub all_asked : flat_map asks (passing stirred 0 d.gates) ≡ open_work_at is_open answer d t
  all_asked =
      passed (λ g. is_open g t) stirred asks (λ g. (task_at answer d g t, t)) 0 d.gates
      (λ k g at. let none : 0 + k ≡ k = omega arith in ap asks none ∙ ap (λ o. option_map_or (λ x. cond (is_open x t) ((task_at answer d x t, t) ∷ []) []) o []) at)
      ∙ sym (map_twice (λ g. task_at answer d g t) (λ task. (task, t)) (filter (λ g. is_open g t && stirred g) d.gates))

  -- the gate at a place among the stirred ones is there
  pub is_there : (gates : List ℕ) → ((k : ℕ) → has k gates ≡ has k (passing stirred 0 d.gates)) → (i place : ℕ) → slice_get gates i ≡ Some place → place < length d.gates
  is_there gates those i place at =
      in_list stirred d.gates place (sym (has_place stirred d.gates place) ∙ sym (those place) ∙ any_passes_from_place (nat_eq place) gates i place at (nat_itself place))

  module _ (gates : List ℕ) (apart : AreApart gates) (those : (k : ℕ) → has k gates ≡ has k (passing stirred 0 d.gates)) where
    rearranged : IsPermutation (open_work_at is_open answer d t) (flat_map asks gates)
    rearranged =
        subst (λ l. IsPermutation l (flat_map asks gates)) all_asked
        (same_work asks (passing stirred 0 d.gates) gates (apart_rising 0 (passing stirred 0 d.gates) (passing_rises stirred 0 d.gates)) apart (λ k. sym (those k)))

    -- all of them were asked
    pub asked_all : (old new : List (Evaluation × ℕ)) → new ≡ old ++ flat_map asks gates → IsAskedInSomeOrder old new (open_work_at is_open answer d t)
    asked_all old new is = (flat_map asks gates, rearranged, is)

    -- those before a place were asked
    pub asked_some : (old new : List (Evaluation × ℕ)) (i : ℕ) → new ≡ old ++ flat_map asks (take i gates) → IsAskedInPart old new (open_work_at is_open answer d t)
    asked_some old new i is = (
      flat_map asks (take i gates),
      (
        flat_map asks (drop i gates),
        subst (λ l. IsPermutation (open_work_at is_open answer d t) l) (ap (flat_map asks) (sym (take-append-drop i gates)) ∙ flat_map-append asks (take i gates) (drop i gates)) rearranged,
      ),
      is,
    )

  one_more : (gates : List ℕ) (i place : ℕ) → slice_get gates i ≡ Some place → flat_map asks (take i gates) ++ asks place ≡ flat_map asks (take (i + 1) gates)
  one_more gates i place at =
      ap (λ l. flat_map asks (take i gates) ++ l) (sym (append-nil (asks place)))
      ∙ sym (flat_map-append asks (take i gates) (place ∷ [])) ∙ ap (flat_map asks) (sym (take_next gates i place at))

  -- one more was asked
  pub asked_more : (gates : List ℕ) (i place : ℕ) (old now new : List (Evaluation × ℕ)) → slice_get gates i ≡ Some place →
      now ≡ old ++ flat_map asks (take i gates) → new ≡ now ++ asks place → new ≡ old ++ flat_map asks (take (i + 1) gates)
  asked_more gates i place old now new at so_far is =
      is ∙ ap (λ l. l ++ asks place) so_far ∙ append_assoc old (flat_map asks (take i gates)) (asks place) ∙ ap (λ l. old ++ l) (one_more gates i place at)

  -- the answer to the task of an open gate comes behind those to the tasks of the open gates before it
  next_answer : (gates : List ℕ) (i place : ℕ) (task : Evaluation) (fresh : List State) → slice_get gates i ≡ Some place → asks place ≡ (task, t) ∷ [] →
      fresh ≡ map (λ asked. answer asked.0 asked.1) (flat_map asks gates) → slice_get fresh (length (flat_map asks (take i gates))) ≡ Some (answer task t)
  next_answer gates i place task fresh at one are =
      let front = flat_map asks (take i gates) in let rest = flat_map asks (drop (i + 1) gates) in
      let parts : flat_map asks gates ≡ front ++ (task, t) ∷ rest =
      ap (flat_map asks) (sym (take-append-drop (i + 1) gates)) ∙ flat_map-append asks (take (i + 1) gates) (drop (i + 1) gates)
      ∙ ap (λ l. l ++ rest) (sym (one_more gates i place at) ∙ ap (λ l. front ++ l) one) ∙ append_assoc front ((task, t) ∷ []) rest in
      ap (λ l. slice_get l (length front)) are ∙ slice_get-map (λ asked. answer asked.0 asked.1) (flat_map asks gates) (length front)
      ∙ ap (option_map (λ asked. answer asked.0 asked.1)) (ap (λ l. slice_get l (length front)) parts ∙ at_end front (task, t) rest)

  module _ (place : ℕ) (state : State) (at_state : slice_get (map (state_before answer d t) d.gates) place ≡ Some state) where
    by_gate : (o : Option GateEntry) → slice_get d.gates place ≡ o → option_map (state_before answer d t) o ≡ Some state →
        (g : GateEntry) × (slice_get d.gates place ≡ Some g) × (state_before answer d t g ≡ state)
    by_gate None at is = absurd (cc)
    by_gate (Some g) at is = (g, at, cc)

    -- the gate at the place
    pub found : (g : GateEntry) × (slice_get d.gates place ≡ Some g) × (state_before answer d t g ≡ state)
    found = by_gate (slice_get d.gates place) refl (sym (slice_get-map (state_before answer d t) d.gates place) ∙ at_state)

    opened : (b : Bool) → is_open_at is_open d t place ≡ b → is_open found.0 t ≡ b
    opened b is = sym (ap (λ o. option_map_or (λ g. is_open g t) o false) found.1) ∙ is

    asked_by : (b : Bool) → is_open_at is_open d t place ≡ b → asks place ≡ cond b ((task_at answer d found.0 t, t) ∷ []) []
    asked_by b is =
        ap (λ o. option_map_or (λ g. cond (is_open g t) ((task_at answer d g t, t) ∷ []) []) o []) found.1
        ∙ ap (λ (c : Bool). cond c ((task_at answer d found.0 t, t) ∷ []) []) (opened b is)

    -- nothing is asked of it where its answer is known
    pub not_asked : is_open_at is_open d t place ≡ false → asks place ≡ []
    not_asked is = asked_by false is

    -- its state afterwards
    pub after_here : slice_get (map (state_before answer d (t + 1)) d.gates) place ≡ Some (answer (task_at answer d found.0 t) t)
    after_here = slice_get-map (state_before answer d (t + 1)) d.gates place ∙ ap (option_map (state_before answer d (t + 1))) found.1 ∙ rw add-one refl

    -- where its answer is open, that stands behind those that were asked before it
    pub answer_next : (gates : List ℕ) (i : ℕ) (fresh : List State) → slice_get gates i ≡ Some place → is_open_at is_open d t place ≡ true →
        fresh ≡ map (λ asked. answer asked.0 asked.1) (flat_map asks gates) → slice_get fresh (length (flat_map asks (take i gates))) ≡ Some (answer (task_at answer d found.0 t) t)
    answer_next gates i fresh at is are = next_answer gates i place (task_at answer d found.0 t) fresh at (asked_by true is) are

    -- and it is one
    pub one_asked : (gates : List ℕ) (i : ℕ) → slice_get gates i ≡ Some place → is_open_at is_open d t place ≡ true →
        length (flat_map asks (take i gates)) + 1 ≡ length (flat_map asks (take (i + 1) gates))
    one_asked gates i at is =
        let one : length (asks place) ≡ 1 = ap length (asked_by true is) in
        let parts = ap length (one_more gates i place at) in let both = length-append (flat_map asks (take i gates)) (asks place) in
        omega (arith, one, parts, both)

    pub none_asked_here : (gates : List ℕ) (i : ℕ) → slice_get gates i ≡ Some place → is_open_at is_open d t place ≡ false →
        flat_map asks (take i gates) ≡ flat_map asks (take (i + 1) gates)
    none_asked_here gates i at is = sym (append-nil (flat_map asks (take i gates))) ∙ ap (λ l. flat_map asks (take i gates) ++ l) (sym (not_asked is)) ∙ one_more gates i place at

    module _ (values : List Value) (cells : List CellRecord) (are_values : values ≡ map (λ n. value answer d n t) d.nets) (are_cells : cells ≡ map (cell_of d) d.gates) where
      pub has_cell : place < length cells
      has_cell = rw (are_cells, length-map d.gates (cell_of d)) (slice_get_within d.gates place found.0 found.1)

      module _ (cell : CellRecord) (at_cell : slice_get cells place ≡ Some cell) (task : Evaluation) (is_task : task ≡ evaluation_from values cell state) where
        is_cell : cell ≡ cell_of d found.0
        is_cell =
            let there : Some cell ≡ Some (cell_of d found.0) =
            sym at_cell ∙ ap (λ l. slice_get l place) are_cells ∙ slice_get-map (cell_of d) d.gates place ∙ ap (option_map (cell_of d)) found.1 in
            cc

        pub the_task : task ≡ task_at answer d found.0 t
        the_task =
            is_task ∙ ap (λ (c : CellRecord). evaluation_from values c state) is_cell ∙ ap (evaluation_from values (cell_of d found.0)) (sym found.2)
            ∙ evaluation_is d (state_before answer d t) t values are_values found.0

        -- what is asked of it where its answer is open
        pub asked_here : is_open_at is_open d t place ≡ true → asks place ≡ (task, t) ∷ []
        asked_here is = asked_by true is ∙ ap (λ (e : Evaluation). (e, t) ∷ []) (sym the_task)

        -- and its answer
        pub answer_here : (s : State) → s ≡ answer task t → slice_get (map (state_before answer d (t + 1)) d.gates) place ≡ Some s
        answer_here s by =
            after_here ∙ ap (λ (e : Evaluation). Some (answer e t)) (sym the_task) ∙ ap (λ x. Some x) (sym by)
