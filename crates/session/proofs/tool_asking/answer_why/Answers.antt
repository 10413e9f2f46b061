use Rattle.causes.specs.CauseLines.{why_lines}
use Rattle.session.proofs.ToolLemmas.{change_told, change_told_why}
use Rattle.session.proofs.tool_asking.answer_why.Goals as goal

pub returns-in-Ok : goal.returns-in-Ok
returns-in-Ok g c =
    let s = c.args.snapshot.now in
    change_told s c.args.change.now (λ n. why_lines s.design n c.args.change.now.time) c.in-Ok.place c.args.writer.now c.why.new.writer c.ok.new.writer c.in-Ok.ensures
    c.why.ensures (rw c.version.ensures at c.ok.ensures)

pub returns-in-Err : goal.returns-in-Err
returns-in-Err g c =
    let s = c.args.snapshot.now in
    change_told_why s c.args.change.now (λ n. why_lines s.design n c.args.change.now.time) c.in-Err.fault c.args.writer.now c.in-Err.ensures
