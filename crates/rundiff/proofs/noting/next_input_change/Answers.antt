use Rattle.std.proofs.Common.{◌≡◌, ◌∙◌, ap, sym, true, ℕ, List, not, nat_cmp}
use Rattle.std.specs.BTreeSet.{contains}
use Rattle.std.proofs.lemmas.Bool.{and_parts}
use Rattle.design.specs.Connections.{to_net}
use Rattle.design.specs.Keys.{connection_in, name_of, netlist}
use Rattle.rundiff.specs.kept.Noting.{is_at_live, old_moves}
use Rattle.rundiff.proofs.noting.next_input_change.Goals as goal

pub returns-in_default-net_place_of-clause-first : goal.returns-in_default-net_place_of-clause-first
returns-in_default-net_place_of-clause-first g c = λ u later h.
    let answer = g.S.Stepper.answer in
    let old = netlist c.args.former.now.old.now in
    let new = netlist c.args.former.now.new.now in
    let nets = c.args.former.now.new.now.nets in
    let named : c.as_str.result.now ≡ name_of nets c.in-Net.net = c.as_str.ensures ∙ c.name_of.ensures in
    let moves : old_moves answer old new (connection_in nets c.args.terminal) u ≡ true =
    (and_parts (not (is_at_live new (contains nat_cmp c.args.live.now) (connection_in nets c.args.terminal))) (old_moves answer old new (connection_in nets c.args.terminal) u) h).1 in
    c.next_old_change.ensures.first new u later
    (ap (λ (name : List ℕ). old_moves answer old new (to_net name) u) named ∙ ap (λ terminal. old_moves answer old new (connection_in nets terminal) u) (sym c.in-Net.is) ∙ moves)
