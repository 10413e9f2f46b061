use Rattle.std.proofs.Common.{◌==◌, nat_cmp}
use Rattle.std.specs.BTreeSet.{contains}
use Rattle.design.specs.Keys.{netlist}
use Rattle.rundiff.proofs.Readers.{drivers_more}
use Rattle.rundiff.proofs.Sets.{cond_or, test_is}
use Rattle.rundiff.proofs.holding.hold_one.Goals as goal

pub returns-clause-drivers : goal.returns-clause-drivers
returns-clause-drivers c =
    let d = netlist c.args.new.now in
    drivers_more d c.lawful.ensures.design.distinct_nets c.args.place c.requires.there (contains nat_cmp c.args.live.now) (contains nat_cmp c.insert.new.self)
    (λ p. cc (c.in_ok-insert.ensures.updates.0 p, test_is c.args.place p, cond_or (p == c.args.place) (contains nat_cmp c.args.live.now p)))
    (contains nat_cmp c.args.held.now) (contains nat_cmp c.hold_drivers.new.held) c.in_ok-hold_drivers.ensures c.requires.drivers
