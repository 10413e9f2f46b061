use Rattle.std.proofs.Common.{sym, subst, ◌∙◌, ap}
use Rattle.std.specs.List.{flat_map}
use Rattle.devices.specs.Outgoing.{Adds}
use Rattle.design.specs.Keys.{netlist}
use Rattle.causes.specs.CauseLines as lines
use Rattle.causes.specs.kept.KeyedLines.{lines_at_keys}
use Rattle.causes.proofs.GateLemmas.{driver_lines}
use Rattle.causes.proofs.origin.drivers.Goals as goal

pub returns : goal.returns
returns g c =
    let d = c.args.design.now in
    let told = driver_lines (lines.driver_lines (netlist d) c.args.t) d.nets d.gates c.args.net c.lawful.ensures.keys.distinct_gates in
    let by_name = ap (flat_map (lines.driver_lines (netlist d) c.args.t)) (c.names_are_keys.ensures.drivers c.args.net c.requires.net) in
    let keys = ap (lines_at_keys (lines.driver_lines (netlist d) c.args.t) d.nets d.gates) c.drivers.ensures.drivers in
    subst (λ ws. Adds c.args.writer.now c.turn_lines.new.writer ws) (keys ∙ (told ∙ sym by_name)) c.turn_lines.ensures
