use Rattle.std.proofs.Common.{◌≡◌, ◌++◌, ◌∙◌, ap, sym, subst, suc, arith}
use Rattle.gatestep.proofs.Jobs.{on_err}
use Rattle.gateline.proofs.Knowing.{asked_in_part, known_trace_is, known_work_is}
use Rattle.gateline.proofs.Lists.{if_ok_then, on_err_so, on_ok_so}
use Rattle.gateline.proofs.line.follow_line.Goals as goal
use Rattle.gateline.specs.kept.KnownLines.{IsLineOf, known_work}
use Rattle.gateline.specs.kept.Line.{line_work_from}
use Rattle.gateline.specs.kept.OldLines.{line_if, wanted_by}
use Rattle.gateline.specs.kept.Starts.{begin_of}
use Rattle.gateline.specs.kept.Waves.{inputs_by}
use Rattle.scratch.specs.Asked.{IsAskedInPart}
use Rattle.waveform.specs.Changes.{wave_changes_below}
use Rattle.waveform.specs.kept.Currents.{currents}

pub returns-in-Some : goal.returns-in-Some
returns-in-Some g c =
    let answer = g.S.Stepper.answer in let cell = c.args.cell.now in let waves = c.args.along.waves.now in let inputs = inputs_by waves cell.inputs in
    let begin = begin_of c.args.start.former in let last = c.args.last in let known = c.in-Some.known.now in
    let is : IsLineOf known cell waves begin last = c.in-Some.ensures.line in
    let old = g.S.Stepper.asked c.args.stepper.now in let new = g.S.Stepper.asked c.take.new.stepper in
    let works : known_work answer known ≡ line_work_from answer cell.kind cell.delays inputs (wanted_by (line_if c.args.start.beside) cell.inputs) begin (suc last)
    = known_work_is answer known cell waves begin last is
    ∙ ap (λ o. line_work_from answer cell.kind cell.delays inputs (wanted_by (line_if o) cell.inputs) begin (suc last)) (sym c.in-Some.ensures.alone) in
    record {
      trace = if_ok_then c.take.result (λ line traced. traced ∙ known_trace_is answer known cell waves begin last is) c.take.ensures.trace;
      wave = if_ok_then c.take.result (λ line found wave some. found wave some ∙ ap (λ m. wave_changes_below (currents line.trace) (suc m)) is.end) c.take.ensures.wave;
      asked = on_ok_so c.take.result c.take.ensures.asked (λ asked. asked ∙ ap (λ l. old ++ l) works);
      part = on_err_so c.take.result c.take.ensures.part (λ part. subst (λ l. IsAskedInPart old new l) works part);
      lost = c.take.ensures.lost;
    }

pub returns-in_err-trace-clause-part : goal.returns-in_err-trace-clause-part
returns-in_err-trace-clause-part g c =
    let cell = c.args.cell.now in let inputs = inputs_by c.args.along.waves.now cell.inputs in let asked = g.S.Stepper.asked in
    let part = c.in_err-trace.ensures.part in
    on_err c.from_residual.result
    (asked_in_part g.S.Stepper.answer cell.kind cell.delays inputs (wanted_by (line_if c.args.start.beside) cell.inputs) (begin_of c.args.start.former)
    (asked c.args.stepper.now) (asked c.follow_anew.new.stepper) part.0 (suc c.args.last) part.1 part.2)

pub returns-in_err-trace-2-clause-part : goal.returns-in_err-trace-2-clause-part
returns-in_err-trace-2-clause-part g c =
    let cell = c.args.cell.now in let inputs = inputs_by c.args.along.waves.now cell.inputs in let asked = g.S.Stepper.asked in
    on_err c.from_residual-in_err-trace-2.result
    (asked_in_part g.S.Stepper.answer cell.kind cell.delays inputs (wanted_by (line_if c.args.start.beside) cell.inputs) (begin_of c.args.start.former)
    (asked c.args.stepper.now) (asked c.follow_anew.new.stepper) (suc c.args.last) (suc c.args.last) (omega arith) c.in_ok-trace.ensures.asked)
