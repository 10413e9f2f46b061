use Rattle.std.proofs.Common.{◌≡◌, ◌+◌, ◌<◌, ◌≤◌, [], length, ap, arith, ◌∙◌}
use Rattle.bench.specs.Benches.{SnapshotRecord}
use Rattle.design.specs.Netlist.{Netlist}
use Rattle.design.specs.declared.limits.TheConstants.{MAX_NETS}
use Rattle.differences.specs.Differences.{first_moment}
use Rattle.differences.proofs.StepLemmas.{next_found, room_left}
use Rattle.differences.proofs.finding.find_changed.Goals as goal

pub add-requires : goal.add-requires
add-requires g c =
    let d = c.args.bench.now.snapshot.design in
    let e = c.args.other.now.design in
    let nets = ap (λ (q : Netlist). length q.nets) (c.design-design.ensures ∙ ap (λ (s : SnapshotRecord). s.design) (c.deref.ensures ∙ c.snapshot.ensures)) in
    let few = c.lawful.ensures.design.net_count in
    let most : length d.nets ≤ MAX_NETS = omega arith in
    let within : c.loop-place.place < length d.nets = omega arith in
    room_left (first_moment d e) d c.loop-place.room.found.items c.loop-place.place c.loop-place.invariant within most

pub loop-place-preserved : goal.loop-place-preserved
loop-place-preserved g c =
    let d = c.args.bench.now.snapshot.design in
    let e = c.args.other.now.design in
    let nets = ap (λ (q : Netlist). length q.nets) (c.design-design.ensures ∙ ap (λ (s : SnapshotRecord). s.design) (c.deref.ensures ∙ c.snapshot.ensures)) in
    let within : c.loop-place.place < length d.nets = omega arith in
    let same : c.loop-place.place ≡ 0 + c.loop-place.place = omega arith in
    next_found (first_moment d e) 0 c.loop-place.place d c.loop-place.place c.moment_since-moment.result c.loop-place.room.found.items c.add.new.self.found.items []
    same within c.moment_since-moment.ensures c.loop-place.invariant c.add.ensures
