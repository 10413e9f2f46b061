-- Where the traces of the gates that have come are found, so is what a gate reads that may come next.
use Rattle.std.proofs.Common.{◌≡◌, ◌<◌, ◌≤◌, ◌⊎◌, inl, inr, ◌∙◌, sym, ap, refl, Bool, true, false, ℕ, List, [], ◌∷◌, ◌++◌, map, length, Option, Some, None, IfSome, slice_get, arith}
use Rattle.std.specs.Prelude.{nat_eq, ◌||◌}
use Rattle.std.specs.List.{list_all}
use Rattle.std.specs.Option.{option_map, option_map_or}
use Rattle.std.proofs.Math.ListN.{set}
use Rattle.std.proofs.lemmas.Bool.{cases_lt, eqb-true, and_parts}
use Rattle.std.proofs.lemmas.List.{length-map}
use Rattle.std.proofs.lemmas.Option.{slice_get-map, slice_get_past}
use Rattle.gatestep.specs.Step.{State, Evaluation}
use Rattle.catalog.proofs.ListLemmas.{slice_get_some}
use Rattle.design.specs.Connections.{Connection}
use Rattle.design.specs.Netlist.{GateEntry, NetEntry, Netlist}
use Rattle.design.specs.kept.Places.{driver_places}
use Rattle.scratch.specs.declared.wiring.Input.{Input}
use Rattle.scratch.specs.declared.wiring.Input.TheVariants.{At, Fixed}
use Rattle.scratch.specs.kept.Cells.{CellRecord}
use Rattle.scratch.specs.kept.Kept.{cell_of, input_of}
use Rattle.scratch.specs.kept.Places.{has}
use Rattle.scratch.specs.kept.Run.{trace_of}
use Rattle.gateline.specs.kept.Known.{AreSupplied, AreTraced, IsTraced}
use Rattle.waveform.specs.Timelines.{moments}
use Rattle.ordering.specs.kept.Come.{StayTraced}
use Rattle.ordering.specs.kept.Order.{is_order, is_ready, may_come, may_follow}
use Rattle.ordering.proofs.Orders.{all_below}
use Rattle.scratch.proofs.Among.{has_more}
use Rattle.scratch.proofs.Between.{set_here, set_apart, alike}

module _ (answer : Evaluation → ℕ → State) (d : Netlist) (traces : List (List (ℕ × State))) (f : ℕ → Bool) (come : (p : ℕ) → f p ≡ true → IsTraced answer d traces p) where
  traced_each : (places : List ℕ) → list_all f places ≡ true → AreTraced answer d traces places
  traced_each [] h = tt
  traced_each (p ∷ places) h = (come p ((and_parts (f p) (list_all f places) h).0), traced_each places ((and_parts (f p) (list_all f places) h).1))

  drivers_traced : (o : Option NetEntry) → option_map_or (λ n. list_all f (driver_places d.gates n.name)) o true ≡ true → IfSome o (λ n. AreTraced answer d traces (driver_places d.gates n.name))
  drivers_traced None h = tt
  drivers_traced (Some n) h = traced_each (driver_places d.gates n.name) h

  supplied_more : (input : Input) (inputs : List Input) → is_ready d f input ≡ true → AreSupplied answer d traces inputs → AreSupplied answer d traces (input ∷ inputs)
  supplied_more (At m) inputs h rest = (drivers_traced (slice_get d.nets m) h, rest)
  supplied_more (Fixed v) inputs h rest = rest

  supplied_all : (inputs : List Connection) → list_all (λ c. is_ready d f (input_of d c)) inputs ≡ true → AreSupplied answer d traces (map (input_of d) inputs)
  supplied_all [] h = tt
  supplied_all (c ∷ inputs) h =
      let rest = list_all (λ c. is_ready d f (input_of d c)) inputs in
      supplied_more (input_of d c) (map (input_of d) inputs) ((and_parts (is_ready d f (input_of d c)) rest h).0)
      (supplied_all inputs ((and_parts (is_ready d f (input_of d c)) rest h).1))

  supplied_by : (q : Option GateEntry) → option_map_or (λ g. list_all (λ c. is_ready d f (input_of d c)) g.inputs) q false ≡ true → IfSome (option_map (cell_of d) q) (λ cell. AreSupplied answer d traces cell.inputs)
  supplied_by None h = absurd (cc)
  supplied_by (Some g) h = supplied_all g.inputs h

  -- what drives the inputs of a gate that may come next is traced
  pub supplied : (cells : List CellRecord) → cells ≡ map (cell_of d) d.gates → (k : ℕ) → may_come d f k ≡ true → IfSome (slice_get cells k) (λ (cell : CellRecord). AreSupplied answer d traces cell.inputs)
  supplied cells are k h =
      let at : slice_get cells k ≡ option_map (cell_of d) (slice_get d.gates k) = ap (λ l. slice_get l k) are ∙ slice_get-map (cell_of d) d.gates k in
      rw at (supplied_by (slice_get d.gates k) ((and_parts _ (option_map_or (λ g. list_all (λ c. is_ready d f (input_of d c)) g.inputs) (slice_get d.gates k) false) h).1))

-- Traces that are written.

module _ (answer : Evaluation → ℕ → State) (d : Netlist) (traces new : List (List (ℕ × State))) (k : ℕ) (many : length traces ≡ length d.gates) (within : k < length d.gates) where
  module _ (is : IfSome (slice_get d.gates k) (λ g. new ≡ set traces k (trace_of answer d g))) where
    written : (g : GateEntry) × (slice_get d.gates k ≡ Some g) × (new ≡ set traces k (trace_of answer d g))
    written = by (slice_get d.gates k) refl is
      where
        by : (o : Option GateEntry) → slice_get d.gates k ≡ o → IfSome o (λ g. new ≡ set traces k (trace_of answer d g)) →
            (g : GateEntry) × (slice_get d.gates k ≡ Some g) × (new ≡ set traces k (trace_of answer d g))
        by None at is = absurd (let x = slice_get_some d.gates k within in let e = x.1 in cc)
        by (Some g) at is = (g, at, is)

    pub new_traced : IsTraced answer d new k
    new_traced =
        let low : k < length traces = omega arith in
        ap (λ l. slice_get l k) written.2 ∙ set_here traces k (trace_of answer d written.0) low ∙ sym (ap (option_map (trace_of answer d)) written.1)
        ∙ sym (slice_get-map (trace_of answer d) d.gates k)

    -- the traces that were found stay so
    pub stay_traced : StayTraced answer d traces new
    stay_traced p before = by (nat_eq p k) refl
      where
        by : (b : Bool) → nat_eq p k ≡ b → IsTraced answer d new p
        by true e = let at = eqb-true p k e in rw at new_traced
        by false e = ap (λ l. slice_get l p) written.2 ∙ set_apart traces k p (trace_of answer d written.0) e ∙ before

    -- with its trace one gate more is traced
    pub one_traced : (done : List ℕ) → ((p : ℕ) → has p done ≡ true → IsTraced answer d traces p) → (p : ℕ) → has p (done ++ k ∷ []) ≡ true → IsTraced answer d new p
    one_traced done before p on = by (nat_eq p k) refl
      where
        by : (b : Bool) → nat_eq p k ≡ b → IsTraced answer d new p
        by true e = let at = eqb-true p k e in rw at new_traced
        by false e = stay_traced p (before p (sym (or_off (has p done) (nat_eq p k) e) ∙ sym (has_more p k done) ∙ on))
          where
            or_off : (a b : Bool) → b ≡ false → (a || b) ≡ a
            or_off true b h = refl
            or_off false b h = h

-- where the gates of an order are traced, all are
pub all_traced : (answer : Evaluation → ℕ → State) (d : Netlist) (traces : List (List (ℕ × State))) (order : List ℕ) → is_order d order ≡ true → length traces ≡ length d.gates →
    ((p : ℕ) → has p order ≡ true → IsTraced answer d traces p) → traces ≡ map (trace_of answer d) d.gates
all_traced answer d traces order ordered many come = alike traces (map (trace_of answer d) d.gates) (λ k. by k (cases_lt k (length d.gates)))
  where
    among : list_all (λ k. has k order) (moments (length d.gates)) ≡ true
    among = (and_parts (may_follow d [] order) (list_all (λ k. has k order) (moments (length d.gates))) ordered).1

    by : (k : ℕ) → (k < length d.gates) ⊎ (length d.gates ≤ k) → IsTraced answer d traces k
    by k (inl low) = come k (all_below (λ k. has k order) (length d.gates) among k low)
    by k (inr high) =
        let past : length traces ≤ k = rw many high in
        let beyond : length (map (trace_of answer d) d.gates) ≤ k = rw (length-map d.gates (trace_of answer d)) high in
        slice_get_past traces k past ∙ sym (slice_get_past (map (trace_of answer d) d.gates) k beyond)
