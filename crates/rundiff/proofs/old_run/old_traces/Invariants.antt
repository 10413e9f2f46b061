use Rattle.std.proofs.Common.{◌≡◌, suc, length, map}
use Rattle.design.specs.Keys.{netlist}
use Rattle.waveform.specs.kept.Changes.{trace_below}
use Rattle.rundiff.specs.kept.Fronts.{named_state}
use Rattle.rundiff.specs.kept.OldRuns.{HoldsEach}
use Rattle.rundiff.specs.kept.Places.{gate_at}
use Rattle.rundiff.proofs.old_run.old_traces.Given as goal

-- those of the gates so far
abbrev pub invariant-loop-place : goal.invariant-loop-place
invariant-loop-place g l =
    let old = netlist l.former.old.now in let new = netlist l.former.new.now in
    record {
      count : length (map (λ trace. trace.now) l.traces.items) ≡ l.place;
      each : HoldsEach (map (λ trace. trace.now) l.traces.items) (λ p trace. trace ≡ trace_below (named_state g.S.Stepper.answer old (gate_at new p).name) (suc old.horizon));
    }
