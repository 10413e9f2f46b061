-- What each gate did in the run of an old design, and what is wanted of it beside that.
use Rattle.std.specs.Prelude.{◌≡◌, Bool, true, ℕ, [], Option, Some, None, IfSome, length, slice_get}
use Rattle.std.specs.Borrow.{Bor}
use Rattle.std.specs.List.{slice_index_or}
use Rattle.gatestep.specs.Step.{State, Evaluation}
use Rattle.design.specs.Netlist.{GateEntry, Netlist}
use Rattle.gateline.specs.kept.OldLines.{IsOldLine, OldRecord, wanted_by}
pub use Rattle.rundiff.specs.kept.OldRuns.{OldRunRecord}
use Rattle.scratch.specs.kept.Kept.{cell_of}

-- what the gate at a place did there
abbrev pub line_at : OldRunRecord → ℕ → OldRecord
line_at old k = record { is_other = slice_index_or old.others k true; trace = slice_index_or old.traces k []; waves = old.waves }

-- if there is an old run
abbrev pub line_of : Option (Bor OldRunRecord) → ℕ → Option OldRecord
line_of None k = None
line_of (Some old) k = Some (line_at old.now k)

-- what each gate of the design did in an old run
pub record IsOldRun (answer : Evaluation → ℕ → State) (d : Netlist) (old : OldRunRecord) : Type 0 where
  pub traces : length old.traces ≡ length d.gates
  pub others : length old.others ≡ length d.gates
  pub lines : (k : ℕ) → IfSome (slice_get d.gates k) (λ g. IsOldLine answer (cell_of d g) d.horizon (line_at old k))

-- which tasks of the gate at a place are wanted
abbrev pub wanted_at : Option (Bor OldRunRecord) → Netlist → ℕ → GateEntry → Evaluation → ℕ → Bool
wanted_at old d k g = wanted_by (line_of old k) (cell_of d g).inputs
