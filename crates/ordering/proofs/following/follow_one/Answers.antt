use Rattle.std.proofs.Common.{◌≡◌, ◌<◌, ◌∙◌, ap, suc, Some, length, slice_get, refl, arith}
use Rattle.std.proofs.lemmas.List.{length-map}
use Rattle.std.proofs.lemmas.Option.{slice_get_read}
use Rattle.design.specs.Keys.{netlist}
use Rattle.gatestep.proofs.Jobs.{on_err}
use Rattle.gateline.specs.kept.Known.{AreKnown}
use Rattle.scratch.specs.Asked.{IsAskedInPart}
use Rattle.scratch.specs.kept.Cells.{CellRecord}
use Rattle.scratch.specs.kept.Grown.{grown_none}
use Rattle.scratch.specs.kept.Kept.{cell_of}
use Rattle.scratch.proofs.Lists.{if_there}
use Rattle.ordering.specs.kept.Earlier.{begin_after}
use Rattle.ordering.specs.kept.Gates.{gate_work_from}
use Rattle.ordering.specs.kept.OldRuns.{wanted_at}
use Rattle.ordering.proofs.Coming.{if_each}
use Rattle.ordering.proofs.following.follow_one.Goals as goal

pub returns-in_err-find_read-clause-part : goal.returns-in_err-find_read-clause-part
returns-in_err-find_read-clause-part g c =
    let answer = g.S.Stepper.answer in let d = netlist c.args.design.now in let k = c.args.place in let asked = g.S.Stepper.asked c.args.stepper.now in
    on_err c.from_residual.result
    (if_each (slice_get d.gates k) (λ e. IsAskedInPart asked asked (gate_work_from answer d (wanted_at c.args.begin.old d k e) e (begin_after c.args.begin.earlier) (suc d.horizon)))
    (λ e. grown_none asked (gate_work_from answer d (wanted_at c.args.begin.old d k e) e (begin_after c.args.begin.earlier) (suc d.horizon))))

pub follow_known-requires-clause-known : goal.follow_known-requires-clause-known
follow_known-requires-clause-known g c =
    let answer = g.S.Stepper.answer in let d = netlist c.args.design.now in let cells = c.args.wiring.now.cells.items in let k = c.args.place in
    let count : length cells ≡ length d.gates = ap length c.requires.wired.cells ∙ length-map d.gates (cell_of d) in
    let there : k < length d.gates = c.requires.there in
    let at : slice_get cells k ≡ Some c.index.result.now = slice_get_read cells (length cells) k c.index.result.now refl (omega arith) c.index.ensures in
    if_there (slice_get cells k) c.index.result.now (λ (cell : CellRecord). AreKnown answer d c.find_read.new.lines.waves.items cell.inputs) at c.in_ok-find_read.ensures.known
