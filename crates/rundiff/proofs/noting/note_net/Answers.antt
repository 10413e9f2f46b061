use Rattle.std.proofs.Common.{◌≡◌, ◌∙◌, ap, sym, ℕ, List, ⊎_elim, ◌||◌}
use Rattle.std.proofs.lemmas.Bool.{or_cases}
use Rattle.std.proofs.lemmas.Option.{get_or_from_slice_get}
use Rattle.design.specs.Connections.{to_net}
use Rattle.design.specs.Keys.{netlist}
use Rattle.design.specs.Netlist.{NetEntry, has_point}
use Rattle.event_queue.proofs.Changes.{by_ok}
use Rattle.rundiff.specs.kept.Noting.{old_moves}
use Rattle.rundiff.specs.kept.Places.{blank_net, net_at}
use Rattle.rundiff.proofs.Points.{point_after, point_first}
use Rattle.rundiff.proofs.noting.note_net.Goals as goal

pub note-requires : goal.note-requires
note-requires g c =
    let n = c.net_at-net.result.now in
    c.earlier.ensures.after c.args.t (point_after n.points c.args.t c.next_point-point.result c.next_point-point.ensures) c.next_old_change-change.ensures.after

pub returns-clause-next : goal.returns-clause-next
returns-clause-next g c = by_ok c.note.result c.note.ensures.next (λ noted u later moves.
    let answer = g.S.Stepper.answer in
    let old = netlist c.args.former.now.old.now in
    let new = netlist c.args.former.now.new.now in
    let n = c.net_at-net.result.now in
    let at : net_at new c.args.place ≡ n = get_or_from_slice_get new.nets c.args.place n blank_net c.net_at-net.ensures in
    let named : c.as_str.result.now ≡ n.name = c.as_str.ensures ∙ c.name.ensures in
    noted u (⊎_elim
    (λ point. c.earlier.ensures.first u (point_first n.points c.args.t c.next_point-point.result c.next_point-point.ensures c.lawful.ensures.rising u later point))
    (λ change. c.earlier.ensures.second u (c.next_old_change-change.ensures.first new u later (ap (λ (name : List ℕ). old_moves answer old new (to_net name) u) named ∙ change)))
    (or_cases (has_point n.points u) (old_moves answer old new (to_net n.name) u) (ap (λ (x : NetEntry). has_point x.points u || old_moves answer old new (to_net x.name) u) (sym at) ∙ moves))))
