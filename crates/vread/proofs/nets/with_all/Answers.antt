use Rattle.std.proofs.Common.{◌≡◌, ◌++◌, List, [], ◌∷◌, length, sym, ap, ◌∙◌, arith}
use Rattle.std.specs.Vec.Iter.{into_iter_items}
use Rattle.std.proofs.lemmas.List.{nil_from_length}
use Rattle.design.specs.Keys.{netlist}
use Rattle.design.specs.Netlist.{NetEntry, with_net}
use Rattle.vread.specs.kept.Parts.{AreFitNets}
use Rattle.vread.proofs.FitLemmas.{fit_part, net_absent, net_room}
use Rattle.vread.proofs.GrowLemmas.{nets_end, nets_more, nets_others}
use Rattle.vread.proofs.nets.with_all.Goals as goal

pub push_net-requires : goal.push_net-requires
push_net-requires c =
    let before = netlist c.loop-net.made in
    let fit : AreFitNets (before.nets ++ c.in-Some.net ∷ []) = fit_part before.nets (c.in-Some.net ∷ []) (into_iter_items c.next.new.self) ((netlist c.args.design).nets ++ c.args.nets.items)
    (ap (λ (l : List NetEntry). before.nets ++ l) (sym c.in-Some.ensures.steps.0) ∙ c.loop-net.invariant.all) c.requires in
    record {
      absent = net_absent before.nets c.in-Some.net fit c.net.inside.name (ap (λ (n : NetEntry). n.name) c.net.view_is);
      room = net_room before.nets c.in-Some.net fit;
    }

pub loop-net-preserved : goal.loop-net-preserved
loop-net-preserved c =
    let first = netlist c.args.design in
    let before = netlist c.loop-net.made in
    let now = netlist c.push_net.new.self in
    let steps = c.in-Some.ensures.steps in
    let made : now ≡ with_net before c.in-Some.net = c.in_ok-push_net.ensures.by_name ∙ ap (with_net before) c.net.view_is in
    record {
      all = nets_more first before now (c.in-Some.net ∷ []) (into_iter_items c.next.new.self) (first.nets ++ c.args.nets.items) made
          (ap (λ (l : List NetEntry). before.nets ++ l) (sym steps.0) ∙ c.loop-net.invariant.all);
      others = nets_others first before c.loop-net.invariant.others now (c.in-Some.net ∷ []) made;
      count = omega (arith, steps.1, c.loop-net.invariant.count, ap length steps.0);
    }

pub returns : goal.returns
returns c =
    let first = netlist c.args.design in
    let made = netlist c.loop-net.made in
    let empty : into_iter_items c.loop-net.net-iterator ≡ [] = nil_from_length _ (sym c.loop-net.invariant.count ∙ c.in-None.ensures.steps.0) in
    nets_end first made c.loop-net.invariant.others (first.nets ++ c.args.nets.items) (ap (λ (l : List NetEntry). made.nets ++ l) (sym empty) ∙ c.loop-net.invariant.all)
