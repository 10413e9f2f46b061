use Rattle.std.proofs.Common.{◌≤◌, refl, suc, arith}
use Rattle.design.specs.Connections.{to_net}
use Rattle.design.specs.Keys.{netlist}
use Rattle.event_queue.proofs.Changes.{by_ok}
use Rattle.scratch.specs.Run.{value}
use Rattle.rundiff.specs.kept.Places.{net_at}
use Rattle.rundiff.specs.kept.Kept.{read_at}
use Rattle.rundiff.proofs.nets.put_value.Goals as goal

pub returns-clause-put : goal.returns-clause-put
returns-clause-put g c =
    let answer = g.S.Stepper.answer in
    let old = netlist c.args.former.now.old.now in
    let new = netlist c.args.former.now.new.now in
    let x = net_at new c.args.place in
    let stored = c.former_wave-was.ensures answer c.requires.run in
    let within : c.args.t ≤ suc old.horizon = let h = c.requires.within in omega arith in
    by_ok c.put.result c.put.ensures.made
    (λ made. made (value answer new x) (read_at answer old (to_net x.name)) (suc old.horizon) (λ t. refl) (λ t. refl) stored within c.requires.wave c.in_ok-value.ensures)
