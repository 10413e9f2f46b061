-- What stands while a gate is followed.
use Rattle.std.specs.Prelude.{◌≡◌, ℕ, suc, List}
use Rattle.fourstate.specs.declared.value.Value.{Value}
use Rattle.gatestep.specs.Step.{Evaluation, State}
use Rattle.gateline.specs.declared.walk.Course.{Course}
use Rattle.gateline.specs.declared.walk.Situation.{Situation}
use Rattle.gateline.specs.kept.Line.{line_trace, state_by}
use Rattle.gateline.specs.kept.Readers.{StandAt, next_among}
use Rattle.gateline.specs.kept.Waves.{input_functions, inputs_by}
use Rattle.scratch.specs.kept.Cells.{CellRecord}

-- the moments up to and with m are done
pub record IsAt (answer : Evaluation → ℕ → State) (cell : CellRecord) (waves : List (List (ℕ × Value))) (situation : Situation) (course : Course) (m : ℕ) : Type 0 where
  pub state : situation.state ≡ state_by answer cell.kind cell.delays (inputs_by waves cell.inputs) (suc m)
  pub inputs : situation.inputs ≡ inputs_by waves cell.inputs m
  pub trace : course.trace ≡ line_trace answer cell.kind cell.delays (inputs_by waves cell.inputs) (suc m)
  pub readers : StandAt (input_functions waves cell.inputs) course.readers.items m
  pub next : situation.next ≡ next_among course.readers.items
