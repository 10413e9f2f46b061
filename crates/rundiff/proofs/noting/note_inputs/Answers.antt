use Rattle.std.proofs.Common.{◌≡◌, ◌∙◌, ap, sym, not, Bool, ◌&&◌, nat_cmp, take_all}
use Rattle.std.specs.BTreeSet.{contains}
use Rattle.std.specs.List.{list_any}
use Rattle.std.proofs.lemmas.Option.{get_or_from_slice_get}
use Rattle.design.specs.declared.terminal.Terminal.{Terminal}
use Rattle.design.specs.Connections.{Connection}
use Rattle.design.specs.Keys.{connection_in, entry_in, netlist}
use Rattle.design.specs.Netlist.{GateEntry}
use Rattle.event_queue.proofs.Changes.{by_ok}
use Rattle.design.proofs.EntryLemmas.{any_map}
use Rattle.rundiff.specs.kept.Noting.{is_at_live, old_moves}
use Rattle.rundiff.specs.kept.Places.{blank_gate, gate_at}
use Rattle.rundiff.proofs.noting.note_inputs.Goals as goal

pub returns-clause-next : goal.returns-clause-next
returns-clause-next g c = by_ok c.note.result c.note.ensures.next (λ noted u later moves.
    let old = netlist c.args.former.now.old.now in
    let keyed = c.args.former.now.new.now in let new = netlist keyed in
    let gate = c.gate_at-gate.result.now in
    let items = c.inputs-terminal-items.result.now in
    let test : Connection → Bool = λ x. not (is_at_live new (contains nat_cmp c.args.live.now) x) && old_moves g.S.Stepper.answer old new x u in
    let at : gate_at new c.args.place ≡ entry_in keyed.nets gate = get_or_from_slice_get new.gates c.args.place (entry_in keyed.nets gate) blank_gate c.gate_at-gate.ensures.named in
    noted u (c.loop-terminal.invariant.first u later
    (ap (list_any (λ (x : Terminal). test (connection_in keyed.nets x))) (take_all c.loop-terminal.terminal-index items c.loop-terminal-test.false ∙ c.inputs-terminal-items.ensures.inputs)
    ∙ sym (any_map test (connection_in keyed.nets) gate.inputs) ∙ ap (λ (y : GateEntry). list_any test y.inputs) (sym at) ∙ moves)))
