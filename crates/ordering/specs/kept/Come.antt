-- Gates of an order that have come, and those that may come next.
use Rattle.std.specs.Prelude.{◌≡◌, ◌<◌, Bool, true, ℕ, List, [], map, Option, Some, IfSome, length, slice_get}
use Rattle.std.specs.Borrow.{Bor}
use Rattle.std.specs.Option.{option_map_or}
use Rattle.gatestep.specs.Step.{State, Evaluation}
use Rattle.design.specs.Netlist.{Netlist}
use Rattle.scratch.specs.declared.wiring.Wiring.{Wiring}
use Rattle.scratch.specs.Run.{wave_of}
use Rattle.scratch.specs.kept.Cells.{CellRecord}
use Rattle.fourstate.specs.declared.value.Value.{Value}
use Rattle.gateline.specs.kept.Known.{AreSupplied, IsTraced}
use Rattle.ordering.specs.kept.Gates.{gate_work_from}
use Rattle.ordering.specs.kept.OldRuns.{OldRunRecord, wanted_at}
use Rattle.ordering.specs.kept.Order.{is_marked}

module _ (answer : Evaluation → ℕ → State) (d : Netlist) where
  -- the gate at k is there, and the traces of all that drive what it reads are found
  pub record IsReady (w : Wiring) (traces : List (List (ℕ × State))) (k : ℕ) : Type 0 where
    pub there : k < length d.gates
    pub supplied : IfSome (slice_get w.cells.items k) (λ (cell : CellRecord). AreSupplied answer d traces cell.inputs)

  -- this is the wave of the net at a place
  abbrev pub IsWaveAt : ℕ × List (ℕ × Value) → Type 0
  IsWaveAt q = Some q.1 ≡ slice_get (map (wave_of answer d) d.nets) q.0

  -- the traces that were found stay so
  abbrev pub StayTraced : (old new : List (List (ℕ × State))) → Type 0
  StayTraced old new = (p : ℕ) → IsTraced answer d old p → IsTraced answer d new p

  -- of each gate that is marked the trace is found
  abbrev pub HaveCome : List Bool → List (List (ℕ × State)) → Type 0
  HaveCome come traces = (p : ℕ) → is_marked come p ≡ true → IsTraced answer d traces p

  -- what is asked of the gate at k at the moments from a on and below n, beside an old run if there is one
  abbrev pub work_at : Option (Bor OldRunRecord) → (a n : ℕ) → ℕ → List (Evaluation × ℕ)
  work_at old a n k = option_map_or (λ g. gate_work_from answer d (wanted_at old d k g) g a n) (slice_get d.gates k) []
