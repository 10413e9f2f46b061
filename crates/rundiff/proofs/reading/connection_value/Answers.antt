use Rattle.std.proofs.Common.{◌∙◌, ap, sym}
use Rattle.design.specs.Keys.{connection_in, name_of, netlist}
use Rattle.rundiff.specs.kept.Kept.{read_at}
use Rattle.rundiff.proofs.ByPlace.{reads_place}
use Rattle.rundiff.proofs.reading.connection_value.Goals as goal

pub returns-in-Some : goal.returns-in-Some
returns-in-Some c = λ answer n run waves known.
    let keyed = c.args.former.now.new.now in
    let new = netlist keyed in
    let place = c.in-Some.place in
    let found = c.names_are_keys.ensures.nets c.in-Net.net ∙ sym c.in-Some.ensures.net in
    c.net_value.ensures answer n run waves known
    ∙ sym (reads_place answer new (name_of keyed.nets c.in-Net.net) place c.args.m c.in-Some.ensures.within found)
    ∙ ap (λ terminal. read_at answer new (connection_in keyed.nets terminal) c.args.m) (sym c.in-Net.is)
