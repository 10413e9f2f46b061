use Rattle.std.proofs.Common.{suc}
use Rattle.design.specs.Keys.{netlist}
use Rattle.scratch.proofs.Later.{stands_in, wired_in}
use Rattle.scratch.proofs.extending.resume_later.Goals as goal

pub resume-requires-clause-wired : goal.resume-requires-clause-wired
resume-requires-clause-wired g c = wired_in c.args.wiring.now c.args.former.now c.args.design.now c.requires.same c.requires.wired

pub returns : goal.returns
returns g c =
    stands_in g.S.Stepper.answer c.in_ok-engine.engine (suc (netlist c.args.former.now).horizon) c.args.former.now c.args.design.now c.requires.same c.in_ok-engine.ensures
