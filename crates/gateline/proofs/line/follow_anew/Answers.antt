use Rattle.std.proofs.Common.{◌≡◌, ◌<◌, ◌≤◌, ◌++◌, ◌∙◌, ap, sym, ℕ, suc, append-nil, IfSome, inl, inr, arith}
use Rattle.gateline.proofs.Copied.{begin_unasked, begun_later, same_begin}
use Rattle.gateline.proofs.Lists.{on_err_so, on_ok, on_ok_so}
use Rattle.gateline.proofs.line.follow_anew.Goals as goal
use Rattle.gateline.proofs.line.follow_anew.Goals.{in_default-parting-via-in-Some-parting+else-moment-last, in_default-parting-via-in_default-parting}
use Rattle.gateline.specs.kept.Line.{line_work_from, state_by}
use Rattle.gateline.specs.kept.OldLines.{line_if, line_seen, wanted_by}
use Rattle.gateline.specs.kept.Starts.{begin_of}
use Rattle.gateline.specs.kept.Waves.{inputs_by}
use Rattle.scratch.proofs.Lists.{if_there}
use Rattle.waveform.specs.Timelines.{entries_until}

pub walk_line-requires-clause-trace : goal.walk_line-requires-clause-trace
walk_line-requires-clause-trace g c = λ former is.
    let answer = g.S.Stepper.answer in let cell = c.args.cell.now in let inputs = inputs_by c.args.along.waves.now cell.inputs in
    ap (λ l. entries_until l former.done) (c.requires.trace former is)
    ∙ c.cut_of_changes.ensures (λ t. state_by answer cell.kind cell.delays inputs (suc t)) former.done (suc former.done) (omega arith)

pub walk_line-requires-in-Some-parting-clause-trace : goal.walk_line-requires-in-Some-parting-clause-trace
walk_line-requires-in-Some-parting-clause-trace g c = λ former is.
    let answer = g.S.Stepper.answer in let cell = c.args.cell.now in let waves = c.args.along.waves.now in let inputs = inputs_by waves cell.inputs in
    let old = c.in-Some.old in let moment = c.in-Some-parting.moment in let last = c.args.last in
    let line = c.requires.beside old c.in-Some.is in
    elim (c.begin_later.ensures.later former is) [
      | inl same ↦
          ap (λ l. entries_until l former.done) (c.requires.trace former same)
          ∙ c.cut_of_changes.ensures (λ t. state_by answer cell.kind cell.delays inputs (suc t)) former.done (suc former.done) (omega arith)
      | inr made ↦
          let here = made.1 in
          let low : moment ≤ last = c.if-moment-last.true in
          ap (λ l. entries_until l former.done) made.2
          ∙ same_begin answer cell waves (line_seen old) moment (λ t before. line.followed t (omega arith))
          (λ some. c.parting.ensures.there (if_there c.parting.result moment (λ m. 0 < m) c.in-Some-parting.is some))
          (λ t before. c.parting.ensures.inputs t (if_there c.parting.result moment (λ m. t < m) c.in-Some-parting.is before))
          c.same_changes.ensures c.cut_of_changes.ensures former.done last line.whole (omega arith) (omega arith)
    ]

pub returns-in-Some-parting : goal.returns-in-Some-parting
returns-in-Some-parting g c =
    let answer = g.S.Stepper.answer in let cell = c.args.cell.now in let waves = c.args.along.waves.now in let inputs = inputs_by waves cell.inputs in
    let old = c.in-Some.old in let moment = c.in-Some-parting.moment in let last = c.args.last in let done = c.walk_line-in-Some-parting in
    let line = c.requires.beside old c.in-Some.is in let low : moment ≤ last = c.if-moment-last.true in
    let former = c.args.start.former in let first = g.S.Stepper.asked c.args.stepper.now in
    let begun = begun_later answer cell waves (line_seen old) moment (λ t before. line.followed t (omega arith))
    (λ some. c.parting.ensures.there (if_there c.parting.result moment (λ m. 0 < m) c.in-Some-parting.is some))
    (λ t before. c.parting.ensures.inputs t (if_there c.parting.result moment (λ m. t < m) c.in-Some-parting.is before))
    former c.begin_later.result moment _ (omega arith) c.begin_later.ensures.none c.begin_later.ensures.later in
    let same : (n : ℕ) → first ++ line_work_from answer cell.kind cell.delays inputs (wanted_by (line_if c.args.start.beside) cell.inputs) (begin_of c.begin_later.result) n
    ≡ first ++ line_work_from answer cell.kind cell.delays inputs (wanted_by (line_if c.args.start.beside) cell.inputs) (begin_of former) n
    = λ n. ap (λ o. first ++ line_work_from answer cell.kind cell.delays inputs (wanted_by (line_if o) cell.inputs) (begin_of c.begin_later.result) n) c.in-Some.is
    ∙ ap (λ l. first ++ l) (begun n)
    ∙ ap (λ o. first ++ line_work_from answer cell.kind cell.delays inputs (wanted_by (line_if o) cell.inputs) (begin_of former) n) (sym c.in-Some.is) in
    record {
      trace = done.ensures.trace;
      asked = on_ok_so done.result done.ensures.asked (λ asked. asked ∙ same (suc last));
      part = on_err_so done.result done.ensures.part (λ part. (part.0, part.1, part.2 ∙ same part.0));
      lost = done.ensures.lost;
    }

pub returns-in_default-parting-clause-asked : goal.returns-in_default-parting-clause-asked
returns-in_default-parting-clause-asked g c =
    let answer = g.S.Stepper.answer in let cell = c.args.cell.now in let waves = c.args.along.waves.now in let inputs = inputs_by waves cell.inputs in
    let old = c.in-Some.old in let last = c.args.last in let line = c.requires.beside old c.in-Some.is in
    let begin = begin_of c.args.start.former in let first = g.S.Stepper.asked c.args.stepper.now in
    let early : (t : ℕ) → t < suc last → IfSome c.parting.result (λ m. t < m) = λ t before.
    elim c.in_default-parting.branch [
      | in_default-parting-via-in-Some-parting+else-moment-last w ↦
          let late = w.if-moment-last.false in
          if_there c.parting.result w.in-Some-parting.moment (λ m. t < m) w.in-Some-parting.is (omega arith)
      | in_default-parting-via-in_default-parting w ↦ rw w.in_default-parting.is tt
    ] in
    let none = begin_unasked answer cell waves (line_seen old) (suc last) (λ t before. line.followed t (omega arith)) (λ some. c.parting.ensures.there (early 0 some))
    (λ t before. c.parting.ensures.inputs t (early t before)) begin (suc last) (omega arith) in
    on_ok c.copy_line.result
    (sym (append-nil first)
    ∙ ap (λ l. first ++ l) (sym none)
    ∙ ap (λ o. first ++ line_work_from answer cell.kind cell.delays inputs (wanted_by (line_if o) cell.inputs) begin (suc last)) (sym c.in-Some.is))
