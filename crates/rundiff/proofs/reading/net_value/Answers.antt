use Rattle.std.proofs.Common.{◌<◌, refl, suc, arith}
use Rattle.design.specs.Connections.{to_net}
use Rattle.design.specs.Keys.{netlist}
use Rattle.scratch.specs.Run.{value}
use Rattle.rundiff.specs.kept.Places.{net_at}
use Rattle.rundiff.specs.kept.Kept.{read_at}
use Rattle.rundiff.proofs.reading.net_value.Goals as goal

pub returns : goal.returns
returns c = λ answer n run waves known.
    let old = netlist c.args.former.now.old.now in
    let new = netlist c.args.former.now.new.now in
    let x = net_at new c.args.place in
    let stored = c.former_wave-was.ensures answer run in
    let below : c.args.m < suc old.horizon = let h = c.requires.within in omega arith in
    c.value_at.ensures.value (value answer new x) (read_at answer old (to_net x.name)) (suc old.horizon) n (λ t. refl) (λ t. refl) stored below known (waves c.args.place c.requires.there)
