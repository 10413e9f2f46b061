use Rattle.std.proofs.Common.{◌≡◌, ◌++◌, ◌∙◌, ap, sym, suc, slice_get, arith}
use Rattle.gatestep.specs.Step.{advance}
use Rattle.design.specs.Keys.{netlist}
use Rattle.gateline.proofs.InDesign.{trace_is, work_is}
use Rattle.gateline.proofs.Inputs.{cell_at}
use Rattle.gateline.proofs.known_gate.find_known.Goals as goal
use Rattle.gateline.specs.kept.Gates.{gate_work_from}
use Rattle.gateline.specs.kept.Known.{AreKnown}
use Rattle.gateline.specs.kept.Line.{always_wanted, line_trace, line_work_from}
use Rattle.gateline.specs.kept.Starts.{begin_of}
use Rattle.gateline.specs.kept.Waves.{inputs_by}
use Rattle.scratch.proofs.Lists.{of_there}
use Rattle.scratch.specs.kept.Run.{trace_of}
use Rattle.waveform.specs.Changes.{wave_changes_below}
use Rattle.waveform.specs.kept.Currents.{currents}

pub first_moment-requires : goal.first_moment-requires
first_moment-requires c = λ former is. let order = c.requires.order former is in let within = c.horizon-last.ensures.within in let end = c.horizon-last.ensures.horizon in omega arith

pub invariant_of-result : goal.invariant_of-result
invariant_of-result c =
    let d = netlist c.args.design.now in let cells = c.args.wiring.now.cells.items in let place = c.args.place in let waves = c.args.along.waves.now in
    let cell = c.index-cell.result.now in let inputs = inputs_by waves cell.inputs in let reads = c.in_ok-reads.reads.items in
    let it = cell_at d cells place cell c.requires.wired.cells c.requires.there c.index-cell.ensures in
    let known = of_there (slice_get cells place) cell (λ cell. AreKnown advance d waves cell.inputs) it.cell_there c.requires.known in
    let end : c.horizon-last.result ≡ d.horizon = c.horizon-last.ensures.horizon in
    let line = c.in_ok-line.line.trace in let begin = begin_of c.args.former in
    let traced = of_there (slice_get d.gates place) it.gate (λ g. line ≡ trace_of advance d g) it.gate_there c.in_ok-line.ensures.trace in
    let asked = of_there (slice_get d.gates place) it.gate (λ g. c.follow_gate.new.stepper.history.asked ≡ c.new-serial.result.history.asked ++ gate_work_from advance d always_wanted g begin (suc d.horizon)) it.gate_there c.in_ok-line.ensures.asked in
    record {
      trace = traced
          ∙ sym (trace_is advance d waves c.value_of_changes.ensures (c.input_by_place.ensures d) it.gate cell it.is known c.same_changes.ensures)
          ∙ sym (λ i. line_trace advance (c.kind.ensures i) (c.delays.ensures i) (λ t. c.in_ok-reads.ensures t i) (suc (end i)));
      wave = λ wave some. c.in_ok-wave.ensures wave some
          ∙ ap (λ trace. wave_changes_below (currents trace) (suc d.horizon)) c.value.ensures ∙ ap (λ n. wave_changes_below (currents line) (suc n)) (sym end);
      asked = c.into_record.ensures.asked ∙ asked ∙ ap (λ l. l ++ gate_work_from advance d always_wanted it.gate begin (suc d.horizon)) c.new-serial.ensures.asked
          ∙ sym (work_is advance d waves c.value_of_changes.ensures (c.input_by_place.ensures d) it.gate cell it.is known always_wanted begin (suc d.horizon) (omega arith))
          ∙ sym (λ i. line_work_from advance (c.kind.ensures i) (c.delays.ensures i) (λ t. c.in_ok-reads.ensures t i) always_wanted (c.first_moment.ensures i) (suc (end i)));
      none_lost = c.into_record.ensures.losses;
    }
