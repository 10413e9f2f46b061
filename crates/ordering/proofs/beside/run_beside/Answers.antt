use Rattle.std.proofs.Common.{suc}
use Rattle.design.specs.Keys.{netlist}
use Rattle.scratch.specs.kept.Grown.{grown_none}
use Rattle.ordering.specs.kept.Earlier.{begin_after}
use Rattle.ordering.specs.kept.Reworks.{rework_from}
use Rattle.gatestep.proofs.Jobs.{on_err}
use Rattle.ordering.proofs.beside.run_beside.Goals as goal

pub returns-in_err-old-clause-part : goal.returns-in_err-old-clause-part
returns-in_err-old-clause-part g c =
    let old = netlist c.args.former.now.old.now in let new = netlist c.args.former.now.new.now in
    on_err c.from_residual.result (grown_none (g.S.Stepper.asked c.args.stepper.now) (rework_from g.S.Stepper.answer old new (begin_after c.args.earlier) (suc new.horizon)))
