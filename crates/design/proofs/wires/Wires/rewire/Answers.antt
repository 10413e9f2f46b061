use Rattle.catalog.specs.kept.Catalog.{keys_of}
use Rattle.design.specs.kept.Keys.{drives_key, reads_key}
use Rattle.design.proofs.WiringLemmas.{left_in_order}
use Rattle.design.proofs.wires.Wires.rewire.Goals as goal

pub add-requires-clause-readers : goal.add-requires-clause-readers
add-requires-clause-readers c =
    left_in_order (keys_of c.args.gates.now) (reads_key c.args.old.now) c.args.key c.args.self.now.fanout c.remove.new.self.fanout c.requires.readers c.in_ok-remove.ensures.readers

pub add-requires-clause-drivers : goal.add-requires-clause-drivers
add-requires-clause-drivers c =
    left_in_order (keys_of c.args.gates.now) (drives_key c.args.old.now) c.args.key c.args.self.now.drivers c.remove.new.self.drivers c.requires.drivers c.in_ok-remove.ensures.drivers

pub returns-clause-readers : goal.returns-clause-readers
returns-clause-readers c = (c.remove.new.self.fanout, c.in_ok-remove.ensures.readers, c.in_ok-add.ensures.readers)

pub returns-clause-drivers : goal.returns-clause-drivers
returns-clause-drivers c = (c.remove.new.self.drivers, c.in_ok-remove.ensures.drivers, c.in_ok-add.ensures.drivers)
