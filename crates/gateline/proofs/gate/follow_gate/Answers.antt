use Rattle.std.proofs.Common.{◌≡◌, ◌≤◌, ◌++◌, ◌∙◌, ap, sym, subst, ℕ, suc, slice_get, arith}
use Rattle.design.specs.Keys.{netlist}
use Rattle.gateline.proofs.InDesign.{trace_below_is, trace_is, work_is}
use Rattle.gateline.proofs.Inputs.{cell_at}
use Rattle.gateline.proofs.Lists.{if_ok_then, on_err_so, on_ok_so}
use Rattle.gateline.proofs.gate.follow_gate.Goals as goal
use Rattle.gateline.specs.kept.Gates.{gate_work_from}
use Rattle.gateline.specs.kept.Known.{AreKnown}
use Rattle.gateline.specs.kept.Line.{line_trace, line_work_from}
use Rattle.gateline.specs.kept.OldLines.{IsOldLine, line_seen, line_if, wanted_by}
use Rattle.gateline.specs.kept.Starts.{begin_of}
use Rattle.gateline.specs.kept.Waves.{inputs_by}
use Rattle.scratch.proofs.Lists.{if_there, of_there}
use Rattle.scratch.specs.Asked.{IsAskedInPart}
use Rattle.scratch.specs.Run.{state_after}
use Rattle.scratch.specs.kept.Cells.{CellRecord}
use Rattle.scratch.specs.kept.Kept.{cell_of}
use Rattle.scratch.specs.kept.Run.{trace_of}
use Rattle.waveform.specs.Changes.{wave_changes_below}
use Rattle.waveform.specs.kept.Changes.{trace_below}
use Rattle.waveform.specs.kept.Currents.{currents}

pub follow_line-requires : goal.follow_line-requires
follow_line-requires g c =
    let answer = g.S.Stepper.answer in let d = netlist c.args.design.now in let cells = c.args.wiring.now.cells.items in
    let place = c.args.place in let waves = c.args.along.waves.now in let cell = c.index-cell.result.now in
    let it = cell_at d cells place cell c.requires.wired.cells c.requires.there c.index-cell.ensures in
    let known = of_there (slice_get cells place) cell (λ cell. AreKnown answer d waves cell.inputs) it.cell_there c.requires.known in
    let end : c.horizon.result ≡ d.horizon = c.horizon.ensures.horizon in
    record {
      none_lost = c.requires.none_lost;
      within = c.horizon.ensures.within;
      order = λ former is. let order = c.requires.order former is in omega arith;
      trace = λ former is.
          of_there (slice_get d.gates place) it.gate (λ g. former.trace.now ≡ trace_below (state_after answer d g) (suc former.done)) it.gate_there (c.requires.trace former is)
          ∙ sym (trace_below_is answer d waves c.value_of_changes.ensures (c.input_by_place.ensures d) it.gate cell it.is known c.same_changes.ensures (suc former.done)
          (let order = c.requires.order former is in omega arith));
      beside = λ old is. subst (λ h. IsOldLine answer cell h (line_seen old)) (sym end)
          (subst (λ (w : CellRecord). IsOldLine answer w d.horizon (line_seen old)) (sym it.is)
          (of_there (slice_get d.gates place) it.gate (λ g. IsOldLine answer (cell_of d g) d.horizon (line_seen old)) it.gate_there (c.requires.beside old is)));
    }

pub returns : goal.returns
returns g c =
    let answer = g.S.Stepper.answer in let d = netlist c.args.design.now in let cells = c.args.wiring.now.cells.items in
    let place = c.args.place in let waves = c.args.along.waves.now in let cell = c.index-cell.result.now in let inputs = inputs_by waves cell.inputs in
    let it = cell_at d cells place cell c.requires.wired.cells c.requires.there c.index-cell.ensures in
    let known = of_there (slice_get cells place) cell (λ cell. AreKnown answer d waves cell.inputs) it.cell_there c.requires.known in
    let end : c.horizon.result ≡ d.horizon = c.horizon.ensures.horizon in
    let whole = trace_is answer d waves c.value_of_changes.ensures (c.input_by_place.ensures d) it.gate cell it.is known c.same_changes.ensures in
    let old = g.S.Stepper.asked c.args.stepper.now in let now = g.S.Stepper.asked c.follow_line.new.stepper in
    let beside = line_if c.args.start.beside in let begin = begin_of c.args.start.former in
    let works : (n : ℕ) → n ≤ suc d.horizon →
    line_work_from answer cell.kind cell.delays inputs (wanted_by beside cell.inputs) begin n ≡ gate_work_from answer d (wanted_by beside (cell_of d it.gate).inputs) it.gate begin n
    = λ n low. work_is answer d waves c.value_of_changes.ensures (c.input_by_place.ensures d) it.gate cell it.is known (wanted_by beside cell.inputs) begin n low
    ∙ ap (λ (w : CellRecord). gate_work_from answer d (wanted_by beside w.inputs) it.gate begin n) it.is in
    record {
      trace = if_ok_then c.follow_line.result
          (λ line traced. if_there (slice_get d.gates place) it.gate (λ g. line.trace ≡ trace_of answer d g) it.gate_there
          (traced ∙ ap (λ n. line_trace answer cell.kind cell.delays inputs (suc n)) end ∙ whole))
          c.follow_line.ensures.trace;
      wave = if_ok_then c.follow_line.result (λ line found wave some. found wave some ∙ ap (λ n. wave_changes_below (currents line.trace) (suc n)) end) c.follow_line.ensures.wave;
      asked = on_ok_so c.follow_line.result c.follow_line.ensures.asked
          (λ asked. if_there (slice_get d.gates place) it.gate (λ x. now ≡ old ++ gate_work_from answer d (wanted_by beside (cell_of d x).inputs) x begin (suc d.horizon)) it.gate_there
          (asked ∙ ap (λ n. old ++ line_work_from answer cell.kind cell.delays inputs (wanted_by beside cell.inputs) begin (suc n)) end ∙ ap (λ l. old ++ l) (works (suc d.horizon) (omega arith))));
      part = on_err_so c.follow_line.result c.follow_line.ensures.part
          (λ part. if_there (slice_get d.gates place) it.gate
          (λ x. IsAskedInPart old now (gate_work_from answer d (wanted_by beside (cell_of d x).inputs) x begin (suc d.horizon))) it.gate_there
          (subst (λ l. IsAskedInPart old now l) (ap (λ n. line_work_from answer cell.kind cell.delays inputs (wanted_by beside cell.inputs) begin (suc n)) end ∙ works (suc d.horizon) (omega arith)) part));
      lost = c.follow_line.ensures.lost;
    }
