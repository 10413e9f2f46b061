use Rattle.std.proofs.Common.{◌∙◌, ap}
use Rattle.fourstate.specs.Nets.{net_of}
use Rattle.scratch.proofs.resolving.resolve_drivers.Goals as goal

pub returns-clause-value : goal.returns-clause-value
returns-clause-value c = c.resolve-2.ensures ∙ ap (net_of c.args.kind) (c.as_slice.ensures.value ∙ c.in_ok-gather_currents.ensures)
