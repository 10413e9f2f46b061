use Rattle.std.proofs.Common.{◌+◌, ◌++◌, List, IsTrue, drop, get_or, refl, sym, ap, subst, ◌∙◌, arith}
use Rattle.design.specs.Names.{is_name}
use Rattle.design.specs.Netlist.{NetEntry}
use Rattle.vread.specs.kept.Parts.{AreNamed, kept_nets, slot_nets, slots_nets}
use Rattle.vread.proofs.FitLemmas.{all_left}
use Rattle.vread.proofs.NewNetLemmas.{all_right, no_net, no_slot, of_scope, part_end, part_more, slot_first}
use Rattle.vread.proofs.PairLemmas.{blank_slot}
use Rattle.vread.proofs.new_nets.add_scope_nets.Goals as goal

pub loop-place-init : goal.loop-place-init
loop-place-init c = record {
  all = refl;
  named = subst (λ (l : List NetEntry). AreNamed l) (sym (of_scope c.args.names.now c.args.scope.now c.slots-slots.result.now c.module-entry.result.now c.slots-slots.ensures c.module-entry.ensures)) c.requires;
}

pub returns-in_default : goal.returns-in_default
returns-in_default c =
    let names = c.args.names.now in
    let scope = c.args.scope.now in
    let slots = c.slots-slots.result.now in
    let entry = c.module-entry.result.now in
    part_end c.loop-place.nets.items (slots_nets names scope.path (drop c.loop-place.place slots) (drop c.loop-place.place entry.nets)) (c.args.nets.now.items ++ kept_nets names scope)
    (no_net names scope.path slots entry.nets c.loop-place.place (sym c.in_default.is ∙ c.net_at.ensures))
    (c.loop-place.invariant.all ∙ ap (λ (l : List NetEntry). c.args.nets.now.items ++ l) (of_scope names scope slots entry c.slots-slots.ensures c.module-entry.ensures))

pub add_slot-requires : goal.add_slot-requires
add_slot-requires c =
    let names = c.args.names.now in
    let path = c.args.scope.now.path in
    let slots = c.slots-slots.result.now in
    let listed = c.module-entry.result.now.nets in
    let place = c.loop-place.place in
    all_left (λ (n : NetEntry). IsTrue (is_name n.name)) (slot_nets names path (get_or slots place blank_slot) (c.in-Some.name, c.in-Some.net)) (slots_nets names path (drop (place + 1) slots) (drop (place + 1) listed))
    (subst (λ (l : List NetEntry). AreNamed l) (slot_first names path slots listed place blank_slot (c.in-Some.name, c.in-Some.net) (omega (arith, c.loop-place-test.true)) c.in-Some.ensures) c.loop-place.invariant.named)

pub loop-place-preserved : goal.loop-place-preserved
loop-place-preserved c =
    let names = c.args.names.now in
    let path = c.args.scope.now.path in
    let slots = c.slots-slots.result.now in
    let listed = c.module-entry.result.now.nets in
    let place = c.loop-place.place in
    let part : List NetEntry = slot_nets names path (get_or slots place blank_slot) (c.in-Some.name, c.in-Some.net) in
    let rest : List NetEntry = slots_nets names path (drop (place + 1) slots) (drop (place + 1) listed) in
    let first = slot_first names path slots listed place blank_slot (c.in-Some.name, c.in-Some.net) (omega (arith, c.loop-place-test.true)) c.in-Some.ensures in
    record {
      all = part_more c.loop-place.nets.items c.add_slot.new.nets.items part rest (c.args.nets.now.items ++ slots_nets names path slots listed) c.in_ok-add_slot.ensures
          (ap (λ (l : List NetEntry). c.loop-place.nets.items ++ l) (sym first) ∙ c.loop-place.invariant.all);
      named = all_right (λ (n : NetEntry). IsTrue (is_name n.name)) part rest (subst (λ (l : List NetEntry). AreNamed l) first c.loop-place.invariant.named);
    }

pub returns : goal.returns
returns c =
    let names = c.args.names.now in
    let scope = c.args.scope.now in
    let slots = c.slots-slots.result.now in
    let entry = c.module-entry.result.now in
    part_end c.loop-place.nets.items (slots_nets names scope.path (drop c.loop-place.place slots) (drop c.loop-place.place entry.nets)) (c.args.nets.now.items ++ kept_nets names scope)
    (no_slot names scope.path slots entry.nets c.loop-place.place (omega (arith, c.loop-place-test.false)))
    (c.loop-place.invariant.all ∙ ap (λ (l : List NetEntry). c.args.nets.now.items ++ l) (of_scope names scope slots entry c.slots-slots.ensures c.module-entry.ensures))
