use Rattle.std.proofs.Common.{◌≡◌, map, All}
use Rattle.gatestep.specs.Tasks.{PendingFrom}
use Rattle.design.specs.Keys.{netlist}
use Rattle.scratch.specs.kept.Plain.{values_at, moments}
use Rattle.scratch.specs.Run.{state_before}
use Rattle.scratch.proofs.plain.values.Given as goal

-- the drivers are as they are before the moment, and the rows so far are those of the moments so far
abbrev pub invariant-loop-t : goal.invariant-loop-t
invariant-loop-t g l =
    let answer = g.S.Stepper.answer in
    let d = netlist l.fn.design in
    record {
      states : l.moment.states.items ≡ map (state_before answer d l.t) d.gates;
      ready : All (PendingFrom l.t) l.moment.states.items;
      rows : map (λ row. row.items) l.rows.items ≡ map (values_at answer d) (moments l.t);
    }
