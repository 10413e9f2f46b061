use Rattle.std.proofs.Common.{sym, ◌∙◌, arith}
use Rattle.vread.specs.kept.Parts.{is_long_net}
use Rattle.vread.proofs.PairLemmas.{any_here, any_nets_end, any_past, blank_slot, of_scope}
use Rattle.vread.proofs.lengths.are_long_nets.Goals as goal

pub returns-in_default : goal.returns-in_default
returns-in_default c =
    let p = is_long_net c.args.names.now c.args.path in
    any_nets_end p c.slots-slots.result.now c.module-entry.result.now.nets c.loop-place.place c.loop-place.invariant (sym c.in_default.is ∙ c.net_at.ensures)
    ∙ of_scope p c.args.scope.now c.slots-slots.result.now c.module-entry.result.now c.slots-slots.ensures c.module-entry.ensures

pub returns-then-is_long_net : goal.returns-then-is_long_net
returns-then-is_long_net c =
    let p = is_long_net c.args.names.now c.args.path in
    any_here p c.slots-slots.result.now c.module-entry.result.now.nets c.loop-place.place c.loop-place.invariant blank_slot (c.in-Some.name, c.in-Some.net) (omega (arith, c.loop-place-test.true)) c.in-Some.ensures
    (sym c.is_long_net.ensures ∙ c.if-is_long_net.true)
    ∙ of_scope p c.args.scope.now c.slots-slots.result.now c.module-entry.result.now c.slots-slots.ensures c.module-entry.ensures

pub loop-place-preserved : goal.loop-place-preserved
loop-place-preserved c =
    let p = is_long_net c.args.names.now c.args.path in
    any_past p c.slots-slots.result.now c.module-entry.result.now.nets c.loop-place.place c.loop-place.invariant blank_slot (c.in-Some.name, c.in-Some.net) (omega (arith, c.loop-place-test.true)) c.in-Some.ensures
    (sym c.is_long_net.ensures ∙ c.if-is_long_net.false)
