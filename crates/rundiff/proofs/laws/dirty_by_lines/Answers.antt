use Rattle.rundiff.proofs.OldRuns.{inputs_read, trace_again}
use Rattle.rundiff.proofs.OneGate.{by_task}
use Rattle.rundiff.proofs.ReadBefore.{state_read}
use Rattle.rundiff.proofs.laws.dirty_by_lines.Goals as goal

pub returns-clause-states : goal.returns-clause-states
returns-clause-states g c = λ old new run design right p there known t within.
    state_read g.S.Stepper.answer old new run right c.value_of_changes-2.ensures g.met.S.Stepper.answer_pending design p there known t within

pub returns-clause-inputs : goal.returns-clause-inputs
returns-clause-inputs g c = λ old new run design right p there t within.
    inputs_read g.S.Stepper.answer old new run right c.value_of_changes.ensures design p there t within

pub returns-clause-trace : goal.returns-clause-trace
returns-clause-trace g c = λ old new run design right p there.
    trace_again g.S.Stepper.answer old new run right c.value_of_changes-2.ensures g.met.S.Stepper.answer_pending c.same_changes.ensures design p there

pub returns-clause-dirty : goal.returns-clause-dirty
returns-clause-dirty g c = λ old new gate t within. by_task g.S.Stepper.answer old new gate t within
