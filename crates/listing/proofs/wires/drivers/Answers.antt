use Rattle.std.proofs.Common.{sym, ◌∙◌, ap}
use Rattle.listing.specs.Listings.{gate_names}
use Rattle.listing.proofs.WireLemmas.{driver_names}
use Rattle.listing.proofs.wires.drivers.Goals as goal

pub returns : goal.returns
returns g c =
    let d = c.args.design.now in
    let names = driver_names d.nets d.gates c.args.net c.lawful.ensures.keys.distinct_gates ∙ sym (ap gate_names (c.names_are_keys.ensures.drivers c.args.net c.requires)) in
    rw (← names) (rw c.drivers.ensures.drivers at c.gate_names.ensures)
