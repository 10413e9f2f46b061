use Rattle.std.proofs.Common.{◌≡◌, ◌≤◌, ◌++◌, ◌∙◌, ap, sym, ℕ, suc, append_assoc, arith}
use Rattle.gateline.proofs.Lists.{on_err_so, on_ok_so}
use Rattle.gateline.proofs.Still.{work_splits}
use Rattle.gateline.proofs.line.walk_line.Goals as goal
use Rattle.gateline.specs.kept.Line.{line_work_from, work_at}
use Rattle.gateline.specs.kept.OldLines.{line_if, wanted_by}
use Rattle.gateline.specs.kept.Starts.{begin_of}
use Rattle.gateline.specs.kept.Waves.{inputs_by}

pub returns-in_ok-walk-in-None : goal.returns-in_ok-walk-in-None
returns-in_ok-walk-in-None g c =
    let answer = g.S.Stepper.answer in let cell = c.args.cell.now in let inputs = inputs_by c.args.along.waves.now cell.inputs in
    let old = g.S.Stepper.asked c.args.stepper.now in let wanted = wanted_by (line_if c.args.start.beside) cell.inputs in
    let first = work_at answer cell.kind cell.delays inputs wanted 0 in let walk = c.in_ok-walk-in-None in
    let whole : (n : ℕ) → 1 ≤ n → g.S.Stepper.asked c.open.new.stepper ++ line_work_from answer cell.kind cell.delays inputs (wanted_by (line_if walk.walk.course.beside) cell.inputs) 1 n
    ≡ old ++ line_work_from answer cell.kind cell.delays inputs wanted (begin_of c.args.start.former) n
    = λ n low. (λ i. walk.ensures.asked i ++ line_work_from answer cell.kind cell.delays inputs (wanted_by (line_if (walk.ensures.beside i)) cell.inputs) 1 n)
    ∙ append_assoc old first (line_work_from answer cell.kind cell.delays inputs wanted 1 n)
    ∙ ap (λ l. old ++ l) (sym (work_splits answer cell.kind cell.delays inputs wanted 0 1 n (omega arith) low))
    ∙ ap (λ former. old ++ line_work_from answer cell.kind cell.delays inputs wanted (begin_of former) n) (sym c.in-None.is) in
    record {
      trace = c.go_on.ensures.trace;
      asked = on_ok_so c.go_on.result c.go_on.ensures.asked (λ asked. asked ∙ whole (suc c.args.last) (omega arith));
      part = on_err_so c.go_on.result c.go_on.ensures.part (λ part. (part.0, part.2, part.3 ∙ whole part.0 part.1));
      lost = c.go_on.ensures.lost ∙ walk.ensures.lost;
    }

pub returns-in_ok-walk-in-Some-clause-part : goal.returns-in_ok-walk-in-Some-clause-part
returns-in_ok-walk-in-Some-clause-part g c =
    let answer = g.S.Stepper.answer in let cell = c.args.cell.now in let inputs = inputs_by c.args.along.waves.now cell.inputs in
    let old = g.S.Stepper.asked c.args.stepper.now in let begin = suc c.in-Some.former.done in
    on_err_so c.go_on-in-Some.result c.go_on-in-Some.ensures.part
    (λ part. (
      part.0,
      part.2,
      part.3 ∙ ap (λ o. old ++ line_work_from answer cell.kind cell.delays inputs (wanted_by (line_if o) cell.inputs) begin part.0) c.in_ok-walk-in-Some.ensures.beside
          ∙ ap (λ former. old ++ line_work_from answer cell.kind cell.delays inputs (wanted_by (line_if c.args.start.beside) cell.inputs) (begin_of former) part.0) (sym c.in-Some.is),
    ))

pub go_on-requires-clause-meeting : goal.go_on-requires-clause-meeting
go_on-requires-clause-meeting g c = λ old is t late early. let within = c.requires.within in c.meeting_of-meeting.ensures old (sym c.in_ok-walk-in-None.ensures.beside ∙ is) t late (omega arith)

pub go_on-requires-in-Some-clause-meeting : goal.go_on-requires-in-Some-clause-meeting
go_on-requires-in-Some-clause-meeting g c = λ old is t late early. let within = c.requires.within in c.meeting_of-meeting.ensures old (sym c.in_ok-walk-in-Some.ensures.beside ∙ is) t late (omega arith)
