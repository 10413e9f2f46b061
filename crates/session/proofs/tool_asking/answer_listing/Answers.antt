use Rattle.session.specs.ToolAnswers.{listing_lines}
use Rattle.session.proofs.ToolLemmas.{told, told_why}
use Rattle.session.proofs.tool_asking.answer_listing.Goals as goal

pub returns-in-Ok : goal.returns-in-Ok
returns-in-Ok g c =
    let snapshot = c.args.snapshot.now in
    told snapshot.version (listing_lines snapshot.design c.args.listing.now) c.args.writer.now c.list.new.writer c.ok.new.writer
    (rw c.design.ensures at c.in-Ok.ensures) (rw c.version.ensures at c.ok.ensures)

pub returns-in-Err : goal.returns-in-Err
returns-in-Err g c =
    let snapshot = c.args.snapshot.now in
    told_why snapshot.version (listing_lines snapshot.design c.args.listing.now) c.in-Err.fault c.args.writer.now c.list.new.writer
    (rw c.design.ensures at c.in-Err.ensures)
