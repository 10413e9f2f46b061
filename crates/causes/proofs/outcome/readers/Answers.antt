use Rattle.std.proofs.Common.{sym, subst, ◌∙◌, ap}
use Rattle.std.specs.List.{filter, flat_map}
use Rattle.devices.specs.Outgoing.{Adds}
use Rattle.design.specs.Keys.{name_of, netlist}
use Rattle.design.specs.Netlist.{reads}
use Rattle.causes.specs.CauseLines as lines
use Rattle.causes.specs.kept.KeyedLines.{lines_at_keys}
use Rattle.causes.proofs.GateLemmas.{gates_of, places_by_name, reader_lines}
use Rattle.causes.proofs.outcome.readers.Goals as goal

pub returns : goal.returns
returns g c =
    let d = c.args.design.now in
    let told = reader_lines (lines.reader_lines (netlist d) c.args.t) d.nets d.gates c.args.net (places_by_name d c.places_are_keys.ensures.nets) c.requires.net c.lawful.ensures.keys.connected c.lawful.ensures.keys.distinct_gates in
    let by_name = ap (λ gates. flat_map (lines.reader_lines (netlist d) c.args.t) (filter (λ gate. reads gate (name_of d.nets c.args.net)) gates)) (gates_of d) in
    let keys = ap (lines_at_keys (lines.reader_lines (netlist d) c.args.t) d.nets d.gates) c.fanout.ensures.readers in
    subst (λ ws. Adds c.args.writer.now c.turn_lines.new.writer ws) (keys ∙ (told ∙ sym by_name)) c.turn_lines.ensures
