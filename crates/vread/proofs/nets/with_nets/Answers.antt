use Rattle.std.proofs.Common.{IsTrue}
use Rattle.std.specs.Prelude.{flat_map}
use Rattle.design.specs.Keys.{netlist}
use Rattle.design.specs.Names.{is_name}
use Rattle.design.specs.Netlist.{NetEntry}
use Rattle.vread.specs.kept.Parts.{kept_nets}
use Rattle.vread.proofs.NewNetLemmas.{all_right}
use Rattle.vread.proofs.nets.with_nets.Goals as goal

pub nets_of-requires : goal.nets_of-requires
nets_of-requires c = all_right (λ (n : NetEntry). IsTrue (is_name n.name)) (netlist c.args.design).nets (flat_map (kept_nets c.args.names.now) c.args.scopes.now) c.requires.named
