use Rattle.std.proofs.Common.{◌-◌, ◌<◌, None, replicate, get_or, length, ap, ◌∙◌, arith, sym}
use Rattle.std.proofs.lemmas.List.{at_drop_all, get_or_default}
use Rattle.vtext.specs.declared.module_instance.PortConnection.{PortConnection}
use Rattle.elaboration.specs.kept.Numbered.{joints_from}
use Rattle.elaboration.proofs.JointLemmas.{joined_more, none_joined}
use Rattle.elaboration.proofs.joints.joints.Goals as goal

abbrev nothing : PortConnection
nothing = record { port = None; terminal = None }

pub connections-init : goal.connections-init
connections-init c =
    let connections = c.args.connections.now in
    let nets = c.args.entry.now.nets in
    record {
      within = omega arith;
      joined = c.in_ok-joints.ensures ∙ ap (λ n. replicate n None) c.net_count.ensures ∙ none_joined (length connections) 0 nets
          ∙ sym (at_drop_all (λ cs. joints_from cs (length connections) 0 nets) connections (length connections) (omega arith));
    }

pub connections-preserved : goal.connections-preserved
connections-preserved c =
    let connections = c.args.connections.now in
    let now = c.connections.at - 1 in
    let within : now < length connections = omega (arith, c.connections.invariant.within, c.connections-test.true) in
    record {
      within = omega arith;
      joined = c.join.ensures
          ∙ joined_more connections now c.connections.at (get_or connections now nothing) c.args.entry.now.nets c.connections.joints.items c.requires (omega (arith, c.connections-test.true)) within
          (get_or_default connections now nothing (get_or connections now nothing) within) c.connections.invariant.joined;
    }
