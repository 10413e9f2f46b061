use Rattle.std.proofs.Common.{◌≡◌, ◌<◌, ◌≤◌, ◌∙◌, ap, sym, Some, true, false, arith}
use Rattle.std.specs.Option.{option_map_or}
use Rattle.design.specs.Netlist.{has_point}
use Rattle.design.specs.kept.Netlist.{next_point}
use Rattle.scratch.proofs.Among.{nat_beyond}
use Rattle.scratch.proofs.Notes.{elsewhere, is_noted, next_is_first, next_is_later, none_later}
use Rattle.scratch.proofs.noting.note_next_point.Goals as goal

pub returns-in_ok-add-clause-next : goal.returns-in_ok-add-clause-next
returns-in_ok-add-clause-next c = λ u low h.
    let n = c.net_at-net.result.now in let t = c.args.t in let w = c.in-Some.next in
    let is : next_point n.points t ≡ Some w = sym c.in-Some.ensures in
    let there : has_point n.points u ≡ true = ap (λ o. option_map_or (λ n. has_point n.points u) o false) (sym c.net_at-net.ensures) ∙ h in
    let late : t < w = next_is_later n.points t w is in
    let first : w ≤ u = next_is_first n.points t c.lawful.ensures.rising w u is low there in
    (w, omega arith, first, is_noted w c.args.place c.args.points.now c.add.new.self c.in_ok-add.ensures.ok)

pub returns-in_ok-add-clause-early : goal.returns-in_ok-add-clause-early
returns-in_ok-add-clause-early c = λ u low.
    let n = c.net_at-net.result.now in let t = c.args.t in let w = c.in-Some.next in
    let late : t < w = next_is_later n.points t w (sym c.in-Some.ensures) in
    elsewhere w c.args.place c.args.points.now c.add.new.self c.in_ok-add.ensures.ok u (nat_beyond w u (omega arith))

pub returns-in_default-clause-next : goal.returns-in_default-clause-next
returns-in_default-clause-next c = λ u low h.
    let n = c.net_at-net.result.now in
    let there : has_point n.points u ≡ true = ap (λ o. option_map_or (λ n. has_point n.points u) o false) (sym c.net_at-net.ensures) ∙ h in
    absurd (none_later n.points c.args.t u (sym c.in_default.ensures) low there)
