use Rattle.vtext.specs.kept.Sound.{IsSoundModule}
use Rattle.elaboration.specs.Scopes.{nets_of}
use Rattle.vread.proofs.DesignLemmas.{no_instance_fault, top_sound}
use Rattle.vread.proofs.knowledge.know.Goals as goal

pub returns : goal.returns
returns c =
    let list = c.args.modules.now in
    let design = c.args.elaboration.now in
    let text = c.requires.elaborated.0 in
    let is = c.requires.elaborated.1 in
    let top_is : IsSoundModule list.names design.top = top_sound text list design is c.requires.sound in
    record {
      refs = c.terminals_are_nodes.ensures list.names list.modules (nets_of list.names list.modules design.top.1);
      whole = c.parts_are_names.ensures.whole;
      flat_parts = c.flat_names_are_parts.ensures list.names;
      sound = c.scopes_are_sound.ensures list.names list.modules design.top c.requires.sound top_is;
      single = c.gate_terminals_are_single.ensures text list.names list.modules design.top c.requires.sound (no_instance_fault text list design is) is.top;
      differ_nets = c.flat_names.ensures.nets list.names list.modules design.top c.requires.sound top_is;
      differ_gates = c.flat_names.ensures.gates list.names list.modules design.top c.requires.sound top_is;
    }
