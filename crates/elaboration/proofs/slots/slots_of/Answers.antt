use Rattle.std.proofs.Common.{◌≡◌, ◌<◌, ◌+◌, ◌++◌, ◌∷◌, [], ℕ, List, None, length, drop, get_or, sym, ap, ◌∙◌, arith}
use Rattle.std.proofs.lemmas.List.{get_or_default}
use Rattle.std.proofs.lemmas.Option.{get_or_from_slice_get, slice_get_within}
use Rattle.vtext.specs.declared.net.Net as nets
use Rattle.elaboration.specs.declared.node.Slot.{Slot}
use Rattle.elaboration.specs.kept.Numbered.{next_place, place_after, slots_from}
use Rattle.elaboration.proofs.SlotLemmas.{next_slot, place_next}
use Rattle.elaboration.proofs.slots.slots_of.Goals as goal

pub loop-place-preserved : goal.loop-place-preserved
loop-place-preserved c =
    let listed = c.args.entry.now.nets in
    let given = c.args.given.now in
    let top = c.args.is_top in
    let place = c.loop-place.place in
    let next = c.loop-place.next in
    let node = get_or given place None in
    let net : ℕ × nets.Net = (c.in-Some.field-0-0, c.in-Some.net) in
    let in_given : place < length given = omega (arith, c.loop-place-test.true) in
    let in_nets : place < length listed = slice_get_within listed place net (sym c.in-Some.ensures) in
    let is_net : net ≡ get_or listed place net = sym (get_or_from_slice_get listed place net net (sym c.in-Some.ensures)) in
    let is_node : node ≡ get_or given place node = get_or_default given place None node in_given in
    let rest_nets = drop (place + 1) listed in
    let rest = drop (place + 1) given in
    record {
      items =
          ap (λ (n : ℕ). c.push.new.self.items ++ slots_from top n rest_nets rest) c.next_place-next.ensures
          ∙ ap (λ (ss : List Slot). ss ++ slots_from top (next_place next net.1 node) rest_nets rest)
          (c.in_ok-push.ensures.items ∙ ap (λ (s : Slot). c.loop-place.items.items ++ s ∷ []) c.slot_of.ensures)
          ∙ next_slot top listed given place net node next c.loop-place.items.items in_nets in_given is_net is_node
          ∙ c.loop-place.invariant.items;
      next =
          ap (λ (n : ℕ). place_after n rest_nets rest) c.next_place-next.ensures
          ∙ place_next listed given place net node next in_nets in_given is_net is_node
          ∙ c.loop-place.invariant.next;
    }
