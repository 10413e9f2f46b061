-- A gate of a design, followed along the waves that are found.
use Rattle.std.proofs.Common.{◌≡◌, ◌<◌, ◌≤◌, ◌∙◌, ap, Bool, ℕ, suc, List, arith}
use Rattle.design.specs.Netlist.{GateEntry, Netlist}
use Rattle.fourstate.specs.declared.value.Value.{Value}
use Rattle.gatestep.specs.Step.{State, Evaluation}
use Rattle.gateline.proofs.Alike as alike
use Rattle.gateline.proofs.Alike.{SameChanges}
use Rattle.gateline.proofs.ByItself as by_itself
use Rattle.gateline.proofs.Inputs.{GivesValues, ReadsByPlace, inputs_known}
use Rattle.gateline.specs.kept.Gates.{gate_work_from}
use Rattle.gateline.specs.kept.Known.{AreKnown}
use Rattle.gateline.specs.kept.Line.{line_trace, line_work_from}
use Rattle.gateline.specs.kept.Waves.{inputs_by}
use Rattle.scratch.specs.Run.{state_after}
use Rattle.scratch.specs.Work.{inputs_at}
use Rattle.scratch.specs.kept.Cells.{CellRecord}
use Rattle.scratch.specs.kept.Kept.{cell_of}
use Rattle.scratch.specs.kept.Run.{trace_of}
use Rattle.waveform.specs.kept.Changes.{trace_below}

module _ (answer : Evaluation → ℕ → State) (d : Netlist) (waves : List (List (ℕ × Value))) (gives : GivesValues) (reads : ReadsByPlace d) (g : GateEntry)
    (cell : CellRecord) (is : cell ≡ cell_of d g) (known : AreKnown answer d waves cell.inputs) where
  read : (t : ℕ) → t < suc d.horizon → inputs_by waves cell.inputs t ≡ inputs_at answer d g t
  read = inputs_known answer d waves gives reads g cell.inputs (ap (λ (w : CellRecord). w.inputs) is) known

  -- its trace below a moment
  pub trace_below_is : SameChanges → (n : ℕ) → n ≤ suc d.horizon → line_trace answer cell.kind cell.delays (inputs_by waves cell.inputs) n ≡ trace_below (state_after answer d g) n
  trace_below_is same n low =
      alike.traces answer cell.kind cell.delays (inputs_by waves cell.inputs) (inputs_at answer d g) n (λ t before. read t (omega arith)) same
      ∙ ap (λ (w : CellRecord). line_trace answer w.kind w.delays (inputs_at answer d g) n) is
      ∙ (λ i. trace_below (λ t. by_itself.states answer d g (suc t) i) n)

  -- its whole trace
  pub trace_is : SameChanges → line_trace answer cell.kind cell.delays (inputs_by waves cell.inputs) (suc d.horizon) ≡ trace_of answer d g
  trace_is same = trace_below_is same (suc d.horizon) (omega arith)

  -- and what is asked of it from a moment on
  pub work_is : (wanted : Evaluation → ℕ → Bool) (a n : ℕ) → n ≤ suc d.horizon →
      line_work_from answer cell.kind cell.delays (inputs_by waves cell.inputs) wanted a n ≡ gate_work_from answer d wanted g a n
  work_is wanted a n low =
      alike.works answer cell.kind cell.delays (inputs_by waves cell.inputs) (inputs_at answer d g) (suc d.horizon) read wanted a n low
      ∙ ap (λ (w : CellRecord). line_work_from answer w.kind w.delays (inputs_at answer d g) wanted a n) is
      ∙ by_itself.work answer d g wanted a n
