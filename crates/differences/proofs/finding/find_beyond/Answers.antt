use Rattle.std.proofs.Common.{◌≡◌, ◌+◌, ◌<◌, ◌≤◌, Some, is_some, length, slice_get, ap, sym, subst, ◌∙◌, arith}
use Rattle.design.specs.Netlist.{Netlist, has_net}
use Rattle.design.specs.declared.limits.TheConstants.{MAX_NETS}
use Rattle.differences.specs.kept.Found.{moment_beyond, name_at}
use Rattle.differences.proofs.NameLemmas.{named_as}
use Rattle.differences.proofs.StepLemmas.{beyond_moment, next_found, room_left_behind}
use Rattle.differences.proofs.finding.find_beyond.Goals as goal

pub add-requires : goal.add-requires
add-requires c =
    let d = c.args.snapshot.now.design in
    let e = c.args.other.now.design in
    let nets = ap (λ (q : Netlist). length q.nets) c.design-design.ensures in
    let its = ap (λ (q : Netlist). length q.nets) c.design-beyond.ensures in
    let few = c.lawful.ensures.design.net_count in
    let few' = c.lawful-2.ensures.design.net_count in
    let most : length d.nets ≤ MAX_NETS = omega arith in
    let most' : length e.nets ≤ MAX_NETS = omega arith in
    let within : c.loop-place.place < length e.nets = omega arith in
    room_left_behind (moment_beyond d) (length d.nets) e c.args.room.now.found.items c.loop-place.room.found.items c.loop-place.place c.loop-place.invariant c.requires most within most'

pub loop-place-preserved : goal.loop-place-preserved
loop-place-preserved c =
    let d = c.args.snapshot.now.design in
    let e = c.args.other.now.design in
    let nets = ap (λ (q : Netlist). length q.nets) c.design-design.ensures in
    let its = ap (λ (q : Netlist). length q.nets) c.design-beyond.ensures in
    let within : c.loop-place.place < length e.nets = omega arith in
    let number : c.net_count-count.result + c.loop-place.place ≡ length d.nets + c.loop-place.place = omega arith in
    let at : slice_get e.nets c.loop-place.place ≡ Some c.net_at.result.now
    = subst (λ (q : Netlist). slice_get q.nets c.loop-place.place ≡ Some c.net_at.result.now) c.design-beyond.ensures c.net_at.ensures in
    let named : c.name-name.result.now ≡ name_at e c.loop-place.place = c.name-name.ensures ∙ sym (named_as e c.loop-place.place c.net_at.result.now at) in
    let there : is_some c.place_of-there.result ≡ has_net d c.name-name.result.now = subst (λ (q : Netlist). is_some c.place_of-there.result ≡ has_net q c.name-name.result.now) c.design-design.ensures c.place_of-there.ensures.there in
    let moment : c.moment_beyond-moment.result ≡ moment_beyond d (name_at e c.loop-place.place) = c.moment_beyond-moment.ensures ∙ beyond_moment d (is_some c.place_of-there.result) c.name-name.result.now (name_at e c.loop-place.place) there named in
    next_found (moment_beyond d) (length d.nets) (c.net_count-count.result + c.loop-place.place) e c.loop-place.place c.moment_beyond-moment.result c.loop-place.room.found.items c.add.new.self.found.items
    c.args.room.now.found.items number within moment c.loop-place.invariant c.add.ensures
