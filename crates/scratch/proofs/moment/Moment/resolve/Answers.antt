use Rattle.design.specs.Keys.{netlist}
use Rattle.scratch.specs.Run.{state_before}
use Rattle.scratch.proofs.Moments.{values_are}
use Rattle.scratch.proofs.moment.Moment.resolve.Goals as goal

pub returns-clause-values : goal.returns-clause-values
returns-clause-values g c =
    let d = netlist c.args.design.now in
    rw (c.in_ok-find_values.ensures, c.as_slice-2.ensures.value, c.in_ok-find_currents.ensures, c.as_slice.ensures.value)
    (values_are d (state_before g.S.Stepper.answer d c.args.t) c.args.t c.args.self.now.states.items _ c.requires.states c.requires.wired.drivers)
