use Rattle.std.proofs.Common.{◌∙◌, nat_cmp}
use Rattle.std.specs.BTreeSet.{contains}
use Rattle.std.proofs.lemmas.Bool.{and_from}
use Rattle.design.specs.Keys.{netlist}
use Rattle.rundiff.specs.kept.Places.{gate_at, is_among}
use Rattle.rundiff.proofs.Among.{live_both}
use Rattle.rundiff.proofs.choosing.choose_nets.Goals as goal

pub returns-clause-driven : goal.returns-clause-driven
returns-clause-driven c = λ q among.
    let d = netlist c.args.new.now in
    let live = contains nat_cmp c.args.live.now in
    let added = is_among c.add_outputs.new.nets.items in
    live_both d added live (is_among c.keep_in_order.new.places.items)
    (λ p at lives. c.keep_in_order.ensures.all p ∙ and_from (added p) (live p) at lives) (gate_at d q).output
    (c.in_ok-add_outputs.ensures.driven q among) (c.requires.live q among)
