-- An order of the gates in which each comes after all that drive what it reads, as a test that computes.
use Rattle.std.specs.Prelude.{◌&&◌, Bool, true, false, not, ℕ, List, [], ◌∷◌, ◌++◌, Option, length, slice_get, unwrap_or}
use Rattle.std.specs.Borrow.{Bor}
use Rattle.std.specs.List.{flat_map, list_all}
use Rattle.std.specs.Option.{option_map_or}
use Rattle.gatestep.specs.Step.{State, Evaluation}
use Rattle.design.specs.Netlist.{GateEntry, Netlist}
use Rattle.design.specs.kept.Places.{driver_places}
use Rattle.waveform.specs.Timelines.{moments}
use Rattle.scratch.specs.declared.wiring.Input.{Input}
use Rattle.scratch.specs.declared.wiring.Input.TheVariants.{At, Fixed}
use Rattle.scratch.specs.declared.wiring.Wiring.{Wiring}
use Rattle.scratch.specs.kept.Cells.{CellRecord}
use Rattle.scratch.specs.kept.Kept.{input_of, places_at}
use Rattle.scratch.specs.kept.Places.{has}
use Rattle.ordering.specs.kept.Gates.{gate_work_from}
use Rattle.ordering.specs.kept.OldRuns.{OldRunRecord, wanted_at}

-- all gates that drive what an input reads are done
abbrev pub is_ready : Netlist → (is_done : ℕ → Bool) → Input → Bool
is_ready d is_done (At m) = option_map_or (λ n. list_all is_done (driver_places d.gates n.name)) (slice_get d.nets m) true
is_ready d is_done (Fixed v) = true

-- the gate at k may come next: it is not done, and all that drive what it reads are
abbrev pub may_come : Netlist → (is_done : ℕ → Bool) → ℕ → Bool
may_come d is_done k =
    not (is_done k) && option_map_or (λ g. list_all (λ c. is_ready d is_done (input_of d c)) g.inputs) (slice_get d.gates k) false

-- each of these places may come next after those before it
abbrev pub follow : (may_come : (is_done : ℕ → Bool) → ℕ → Bool) → (done order : List ℕ) → Bool
follow may_come done [] = true
follow may_come done (k ∷ ks) = may_come (λ p. has p done) k && follow may_come (done ++ k ∷ []) ks

-- each of these gates comes once, after all that drive what it reads
abbrev pub may_follow : Netlist → (done order : List ℕ) → Bool
may_follow d done order = follow (may_come d) done order

-- and all gates are among them
abbrev pub is_order : Netlist → List ℕ → Bool
is_order d order = may_follow d [] order && list_all (λ k. has k order) (moments (length d.gates))

-- something of each of the gates in this order, one after another
abbrev pub each_in_order : Netlist → (ℕ → GateEntry → List (Evaluation × ℕ)) → List ℕ → List (Evaluation × ℕ)
each_in_order d f order = flat_map (λ k. option_map_or (f k) (slice_get d.gates k) []) order

-- what is asked of the gates in this order at the moments from a on and below n, gate after gate, beside an old run if there is one
abbrev pub order_work_from : (Evaluation → ℕ → State) → Netlist → Option (Bor OldRunRecord) → (a n : ℕ) → List ℕ → List (Evaluation × ℕ)
order_work_from answer d old a n order = each_in_order d (λ k g. gate_work_from answer d (wanted_at old d k g) g a n) order

-- the same by the connections of the design: all gates that drive what an input reads are done
abbrev pub is_ready_by : Wiring → (is_done : ℕ → Bool) → Input → Bool
is_ready_by w is_done (At m) = list_all is_done (places_at w.drivers.items m)
is_ready_by w is_done (Fixed v) = true

-- and the gate at k may come next
abbrev pub may_come_by : Wiring → (is_done : ℕ → Bool) → ℕ → Bool
may_come_by w is_done k =
    not (is_done k) && option_map_or (λ (cell : CellRecord). list_all (is_ready_by w is_done) cell.inputs) (slice_get w.cells.items k) false

-- the place is marked
abbrev pub is_marked : List Bool → ℕ → Bool
is_marked marks p = unwrap_or (slice_get marks p) false
