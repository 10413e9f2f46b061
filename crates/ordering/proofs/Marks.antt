-- Marks for the places that have come, and the connections in place of the gates.
use Rattle.std.proofs.Common.{◌≡◌, ◌<◌, ◌≤◌, ◌∙◌, sym, ap, refl, Bool, true, false, not, ℕ, zero, suc, ◌+◌, List, [], ◌∷◌, ◌++◌, length, get_or, take, drop, Option, Some, None, slice_get, unwrap_or, add-one, arith}
use Rattle.std.specs.Prelude.{nat_eq, ◌||◌, ◌&&◌}
use Rattle.std.specs.List.{list_all}
use Rattle.std.specs.Option.{option_map, option_map_or}
use Rattle.std.proofs.Math.ListN.{set}
use Rattle.std.proofs.Math.Seq.{drop-cons, take-length}
use Rattle.std.proofs.lemmas.List.{take_more}
use Rattle.std.proofs.lemmas.Bool.Decides.{nat_tests}
use Rattle.std.proofs.lemmas.List.Folds.{list_all-append, list_all-map}
use Rattle.std.proofs.lemmas.Option.{slice_get-map}
use Rattle.std.proofs.lemmas.Bool.{eqb-true, and_parts}
use Rattle.std.proofs.Math.Bool.{or-true, or-false}
use Rattle.catalog.proofs.ListLemmas.{slice_get_some}
use Rattle.smallvec.specs.SmallVec.{SmallVec}
use Rattle.design.specs.Netlist.{GateEntry, NetEntry, Netlist}
use Rattle.design.specs.kept.Places.{driver_places}
use Rattle.waveform.specs.Timelines.{moments}
use Rattle.scratch.specs.declared.wiring.Input.{Input}
use Rattle.scratch.specs.declared.wiring.Input.TheVariants.{At, Fixed}
use Rattle.scratch.specs.declared.wiring.Wiring.{Wiring}
use Rattle.scratch.specs.kept.Cells.{CellRecord}
use Rattle.scratch.specs.kept.Kept.{IsWiring, cell_of, input_of}
use Rattle.scratch.specs.kept.Places.{has}
use Rattle.ordering.specs.kept.Order.{follow, is_marked, is_order, is_ready, is_ready_by, may_come, may_come_by, may_follow}
use Rattle.scratch.proofs.Among.{has_more, nat_itself}
use Rattle.ordering.proofs.Places.{take_next}

-- Places one after another.

pub one_taken : (xs : List ℕ) (i : ℕ) → i < length xs → take (i + 1) xs ≡ take i xs ++ get_or xs i 0 ∷ []
one_taken xs i low = take_more xs i 0 low

-- one place more has come, or may not
pub follow_step : (may : (ℕ → Bool) → ℕ → Bool) (order : List ℕ) (i : ℕ) (f : ℕ → Bool) (b : Bool) → i < length order → ((p : ℕ) → f p ≡ has p (take i order)) → may f (get_or order i 0) ≡ b →
    follow may (take i order) (drop i order) ≡ (b && follow may (take (i + 1) order) (drop (i + 1) order))
follow_step may order i f b low marked is =
    let k = get_or order i 0 in
    let front : drop i order ≡ k ∷ drop (i + 1) order = rw add-one (drop-cons order i 0 low) in
    ap (follow may (take i order)) front
    ∙ ap (λ (g : ℕ → Bool). may g k && follow may (take i order ++ k ∷ []) (drop (i + 1) order)) (λ j p. sym (marked p) j)
    ∙ ap (λ (c : Bool). c && follow may (take i order ++ k ∷ []) (drop (i + 1) order)) is
    ∙ ap (λ l. b && follow may l (drop (i + 1) order)) (sym (one_taken order i low))

-- Marks.

eq_suc : (p k : ℕ) → nat_eq p k ≡ nat_eq (suc p) (suc k)
eq_suc p k = by (nat_eq p k) refl
  where
    by : (b : Bool) → nat_eq p k ≡ b → nat_eq p k ≡ nat_eq (suc p) (suc k)
    by true is = is ∙ sym (ap (λ z. nat_eq (suc z) (suc k)) (eqb-true p k is) ∙ nat_itself (suc k))
    by false is = let e : nat_eq (suc p) (suc k) ≡ false = grind (arith, nat_tests) in is ∙ sym e

pub mark : (marks : List Bool) (k p : ℕ) → k < length marks → is_marked (set marks k true) p ≡ (is_marked marks p || nat_eq p k)
mark [] k p low = absurd (omega arith)
mark (m ∷ marks) zero zero low = sym (ap (λ (b : Bool). m || b) (nat_itself 0) ∙ or-true m)
mark (m ∷ marks) zero (suc p) low = let e : nat_eq (suc p) 0 ≡ false = grind (arith, nat_tests) in sym (ap (λ (b : Bool). is_marked marks p || b) e ∙ or-false (is_marked marks p))
mark (m ∷ marks) (suc k) zero low = let e : nat_eq 0 (suc k) ≡ false = grind (arith, nat_tests) in sym (ap (λ (b : Bool). m || b) e ∙ or-false m)
mark (m ∷ marks) (suc k) (suc p) low = mark marks k p (omega arith) ∙ ap (λ (b : Bool). is_marked marks p || b) (eq_suc p k)

-- the places that have come are marked: one more
pub mark_next : (marks : List Bool) (order : List ℕ) (i : ℕ) → i < length order → get_or order i 0 < length marks → ((p : ℕ) → is_marked marks p ≡ has p (take i order)) →
    (p : ℕ) → is_marked (set marks (get_or order i 0) true) p ≡ has p (take (i + 1) order)
mark_next marks order i low within marked p =
    let k = get_or order i 0 in
    mark marks k p within ∙ ap (λ (b : Bool). b || nat_eq p k) (marked p) ∙ sym (ap (has p) (one_taken order i low) ∙ has_more p k (take i order))

marked_to : (marks : List Bool) (i : ℕ) → i ≤ length marks → list_all (is_marked marks) (moments i) ≡ list_all (λ m. m) (take i marks)
marked_to marks zero low = refl
marked_to marks (suc i) low =
    let m = slice_get_some marks i (omega arith) in
    list_all-append (is_marked marks) (moments i) (i ∷ []) ∙ ap (λ (b : Bool). b && (is_marked marks i && true)) (marked_to marks i (omega arith))
    ∙ ap (λ o. list_all (λ m. m) (take i marks) && (unwrap_or o false && true)) m.1
    ∙ sym (list_all-append (λ m. m) (take i marks) (m.0 ∷ [])) ∙ ap (list_all (λ m. m)) (sym (take_next marks i m.0 m.1))

-- all places are marked where each mark stands
pub all_marked : (marks : List Bool) → list_all (λ m. m) marks ≡ list_all (is_marked marks) (moments (length marks))
all_marked marks = sym (marked_to marks (length marks) (omega arith) ∙ ap (list_all (λ m. m)) (take-length marks))

-- where the places of an order are marked, all places are among them if all are marked
pub all_among : (marks : List Bool) (order : List ℕ) → ((p : ℕ) → is_marked marks p ≡ has p order) → list_all (λ m. m) marks ≡ list_all (λ k. has k order) (moments (length marks))
all_among marks order marked = all_marked marks ∙ ap (λ (test : ℕ → Bool). list_all test (moments (length marks))) (λ i p. marked p i)

-- The connections in place of the gates.

module _ (d : Netlist) (w : Wiring) (wired : IsWiring d w) where
  ready_by : (f : ℕ → Bool) (o : Option (SmallVec ℕ)) (q : Option NetEntry) → option_map (λ (places : SmallVec ℕ). places.items) o ≡ option_map (λ n. driver_places d.gates n.name) q →
      list_all f (option_map_or (λ (places : SmallVec ℕ). places.items) o []) ≡ option_map_or (λ n. list_all f (driver_places d.gates n.name)) q true
  ready_by f None None e = refl
  ready_by f None (Some n) e = cc
  ready_by f (Some places) None e = cc
  ready_by f (Some places) (Some n) e = let same : places.items ≡ driver_places d.gates n.name = cc in ap (list_all f) same

  ready_is : (f : ℕ → Bool) (input : Input) → is_ready_by w f input ≡ is_ready d f input
  ready_is f (Fixed v) = refl
  ready_is f (At m) =
      ready_by f (slice_get w.drivers.items m) (slice_get d.nets m)
      (sym (slice_get-map (λ (places : SmallVec ℕ). places.items) w.drivers.items m) ∙ ap (λ l. slice_get l m) wired.drivers ∙ slice_get-map (λ n. driver_places d.gates n.name) d.nets m)

  come_by : (f : ℕ → Bool) (q : Option GateEntry) →
      option_map_or (λ (cell : CellRecord). list_all (is_ready_by w f) cell.inputs) (option_map (cell_of d) q) false ≡ option_map_or (λ g. list_all (λ c. is_ready d f (input_of d c)) g.inputs) q false
  come_by f None = refl
  come_by f (Some g) =
      list_all-map (is_ready_by w f) (input_of d) g.inputs
      ∙ ap (λ test. list_all test g.inputs) (λ i c. ready_is f (input_of d c) i)

  pub come_is : (f : ℕ → Bool) (k : ℕ) → may_come_by w f k ≡ may_come d f k
  come_is f k =
      ap (λ (l : List CellRecord). not (f k) && option_map_or (λ (cell : CellRecord). list_all (is_ready_by w f) cell.inputs) (slice_get l k) false) wired.cells
      ∙ ap (λ (o : Option CellRecord). not (f k) && option_map_or (λ (cell : CellRecord). list_all (is_ready_by w f) cell.inputs) o false) (slice_get-map (cell_of d) d.gates k)
      ∙ ap (λ (b : Bool). not (f k) && b) (come_by f (slice_get d.gates k))

  -- an order by the connections is one by the gates
  pub order_is : (order : List ℕ) (n : ℕ) → n ≡ length d.gates → (follow (may_come_by w) [] order && list_all (λ k. has k order) (moments n)) ≡ is_order d order
  order_is order n many =
      ap (λ (b : Bool). b && list_all (λ k. has k order) (moments n)) (ap (λ (may : (ℕ → Bool) → ℕ → Bool). follow may [] order) (λ i f k. come_is f k i))
      ∙ ap (λ m. may_follow d [] order && list_all (λ k. has k order) (moments m)) many

-- of an order that may follow the next gate may come, and then the others may follow
pub follow_on : (d : Netlist) (order : List ℕ) (i : ℕ) → i < length order → may_follow d (take i order) (drop i order) ≡ true →
    (may_come d (λ p. has p (take i order)) (get_or order i 0) ≡ true) × (may_follow d (take (i + 1) order) (drop (i + 1) order) ≡ true)
follow_on d order i low h =
    let come = may_come d (λ p. has p (take i order)) (get_or order i 0) in
    let rest = may_follow d (take (i + 1) order) (drop (i + 1) order) in
    let both : (come && rest) ≡ true = sym (follow_step (may_come d) order i (λ p. has p (take i order)) come low (λ p. refl) refl) ∙ h in
    ((and_parts come rest both).0, (and_parts come rest both).1)
