use Rattle.std.proofs.Common.{◌≡◌, ◌∙◌, ap, sym, Some, not, option_map}
use Rattle.design.specs.Keys.{entry_in, netlist}
use Rattle.design.specs.Netlist.{gate_named}
use Rattle.rundiff.proofs.Known.{new_by_name, unnamed_new}
use Rattle.rundiff.proofs.same.is_new_gate.Goals as goal

pub returns-in_default : goal.returns-in_default
returns-in_default c =
    let d = netlist c.args.old.now in
    let gate = entry_in c.args.new.now.nets c.args.gate.now in
    let named : c.as_str.result.now ≡ gate.name = c.as_str.ensures ∙ c.name.ensures in
    sym (unnamed_new d c.lawful.ensures.design gate (ap (gate_named d) (sym named) ∙ rw c.in_default.is at c.old_gate.ensures.absent))

pub returns : goal.returns
returns c =
    let old = c.args.old.now in
    let d = netlist old in
    let gate = entry_in c.args.new.now.nets c.args.gate.now in
    let named : c.as_str.result.now ≡ gate.name = c.as_str.ensures ∙ c.name.ensures in
    let found : gate_named d gate.name ≡ Some (entry_in old.nets c.gate_of.result.now) =
    ap (gate_named d) (sym named) ∙ sym c.in-Some.ensures.gate ∙ ap (option_map (entry_in old.nets)) c.gate_of.ensures.gate in
    ap not c.same_gate.ensures ∙ sym (new_by_name d c.lawful.ensures.design gate (entry_in old.nets c.gate_of.result.now) found)
