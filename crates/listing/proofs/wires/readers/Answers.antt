use Rattle.design.specs.Keys.{netlist}
use Rattle.listing.proofs.WireLemmas.{reader_names}
use Rattle.listing.proofs.wires.readers.Goals as goal

pub returns : goal.returns
unfolding netlist
returns g c =
    let d = c.args.design.now in
    let names = reader_names d.nets d.gates c.args.net c.places_are_keys.ensures.nets c.requires c.lawful.ensures.keys.connected c.lawful.ensures.keys.distinct_gates in
    rw (← names) (rw c.fanout.ensures.readers at c.gate_names.ensures)
