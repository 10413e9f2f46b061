use Rattle.std.proofs.Common.{◌<◌, ◌++◌, ◌∙◌, ap, sym, refl, length}
use Rattle.std.proofs.lemmas.Option.{slice_get_read}
use Rattle.design.specs.Keys.{netlist}
use Rattle.scratch.proofs.Answered.{answer_here, asked_here, has_cell}
use Rattle.scratch.proofs.answering.answer_of.Goals as goal

pub returns-clause-answer : goal.returns-clause-answer
returns-clause-answer g c =
    let answer = g.S.Stepper.answer in let present = c.args.present.now in let d = netlist present.design.now in let is_open = g.B.Beside.is_open answer d c.args.beside.now in
    let cells = present.wiring.now.cells.items in let is = c.requires.present in
    let low : c.args.place < length cells = has_cell is_open answer d present.t c.args.place c.args.state c.requires.state present.values.now cells is.values is.wired.cells in
    let cell = slice_get_read cells (length cells) c.args.place c.index.result.now refl low c.index.ensures in
    answer_here is_open answer d present.t c.args.place c.args.state c.requires.state present.values.now cells is.values is.wired.cells c.index.result.now cell c.task-task.result c.task-task.ensures
    c.evaluate.result c.evaluate.ensures.answer

pub returns-clause-asked : goal.returns-clause-asked
returns-clause-asked g c =
    let answer = g.S.Stepper.answer in let present = c.args.present.now in let d = netlist present.design.now in let is_open = g.B.Beside.is_open answer d c.args.beside.now in
    let cells = present.wiring.now.cells.items in let is = c.requires.present in
    let low : c.args.place < length cells = has_cell is_open answer d present.t c.args.place c.args.state c.requires.state present.values.now cells is.values is.wired.cells in
    let cell = slice_get_read cells (length cells) c.args.place c.index.result.now refl low c.index.ensures in
    c.evaluate.ensures.recorded
    ∙ ap (λ l. g.S.Stepper.asked c.args.stepper.now ++ l)
    (sym (asked_here is_open answer d present.t c.args.place c.args.state c.requires.state present.values.now cells is.values is.wired.cells c.index.result.now cell c.task-task.result c.task-task.ensures c.in_default.ensures.open))
