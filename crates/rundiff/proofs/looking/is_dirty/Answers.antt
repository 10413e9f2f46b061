use Rattle.std.proofs.Common.{◌≡◌, ◌∙◌, sym}
use Rattle.design.specs.Keys.{connection_in, entry_in, netlist}
use Rattle.scratch.specs.Run.{state_before}
use Rattle.scratch.proofs.Moments.{map_twice}
use Rattle.rundiff.specs.kept.Kept.{read_at}
use Rattle.rundiff.proofs.Known.{of_known}
use Rattle.rundiff.proofs.OneGate.{inputs_differ, new_decides, state_differs}
use Rattle.rundiff.proofs.looking.is_dirty.Goals as goal

pub returns-then-not-is_same : goal.returns-then-not-is_same
returns-then-not-is_same g c =
    let answer = g.S.Stepper.answer in
    let old = netlist c.args.former.now.old.now in
    let gate = entry_in c.args.former.now.new.now.nets c.args.gate.now in
    let was = of_known old c.lawful.ensures.design (λ h. c.old_state_before-was.result ≡ state_before answer old c.args.t h) c.as_str.result.now c.old_state_before-was.ensures gate (c.as_str.ensures ∙ c.name.ensures) in
    state_differs answer old (netlist c.args.former.now.new.now) gate c.args.t c.requires.within c.old_state_before-was.result c.args.state was c.requires.state (sym c.is_same.ensures ∙ c.if-not-is_same.true)

pub returns-then-not-is_same-2 : goal.returns-then-not-is_same-2
returns-then-not-is_same-2 g c =
    let answer = g.S.Stepper.answer in
    let old = netlist c.args.former.now.old.now in
    let nets = c.args.former.now.new.now.nets in
    let gate = entry_in nets c.args.gate.now in
    let was = of_known old c.lawful.ensures.design (λ h. c.old_state_before-was.result ≡ state_before answer old c.args.t h) c.as_str.result.now c.old_state_before-was.ensures gate (c.as_str.ensures ∙ c.name.ensures) in
    let read = c.old_inputs_at-former_inputs.ensures ∙ sym (map_twice (connection_in nets) (λ x. read_at answer old x c.args.t) c.args.gate.now.inputs) in
    inputs_differ answer old (netlist c.args.former.now.new.now) gate c.args.t c.requires.within c.old_state_before-was.result c.args.state was c.requires.state (sym c.is_same.ensures ∙ c.if-not-is_same.false)
    c.old_inputs_at-former_inputs.result c.args.inputs read c.requires.inputs (sym c.is_same-2.ensures ∙ c.if-not-is_same-2.true)

pub returns-then-touched : goal.returns-then-touched
returns-then-touched g c =
    let answer = g.S.Stepper.answer in
    let old = netlist c.args.former.now.old.now in
    let nets = c.args.former.now.new.now.nets in
    let gate = entry_in nets c.args.gate.now in
    let was = of_known old c.lawful.ensures.design (λ h. c.old_state_before-was.result ≡ state_before answer old c.args.t h) c.as_str.result.now c.old_state_before-was.ensures gate (c.as_str.ensures ∙ c.name.ensures) in
    let read = c.old_inputs_at-former_inputs.ensures ∙ sym (map_twice (connection_in nets) (λ x. read_at answer old x c.args.t) c.args.gate.now.inputs) in
    c.is_new_gate.ensures ∙ new_decides answer old (netlist c.args.former.now.new.now) gate c.args.t c.requires.within c.old_state_before-was.result c.args.state was c.requires.state (sym c.is_same.ensures ∙ c.if-not-is_same.false)
    c.old_inputs_at-former_inputs.result c.args.inputs read c.requires.inputs (sym c.is_same-2.ensures ∙ c.if-not-is_same-2.false)

pub returns-else-touched : goal.returns-else-touched
returns-else-touched g c =
    let answer = g.S.Stepper.answer in
    let old = netlist c.args.former.now.old.now in
    let nets = c.args.former.now.new.now.nets in
    let gate = entry_in nets c.args.gate.now in
    let was = of_known old c.lawful.ensures.design (λ h. c.old_state_before-was.result ≡ state_before answer old c.args.t h) c.as_str.result.now c.old_state_before-was.ensures gate (c.as_str.ensures ∙ c.name.ensures) in
    let read = c.old_inputs_at-former_inputs.ensures ∙ sym (map_twice (connection_in nets) (λ x. read_at answer old x c.args.t) c.args.gate.now.inputs) in
    c.if-touched.false ∙ sym (c.requires.known c.if-touched.false)
    ∙ new_decides answer old (netlist c.args.former.now.new.now) gate c.args.t c.requires.within c.old_state_before-was.result c.args.state was c.requires.state (sym c.is_same.ensures ∙ c.if-not-is_same.false)
    c.old_inputs_at-former_inputs.result c.args.inputs read c.requires.inputs (sym c.is_same-2.ensures ∙ c.if-not-is_same-2.false)
