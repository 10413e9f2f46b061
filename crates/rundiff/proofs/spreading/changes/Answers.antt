use Rattle.std.proofs.Common.{◌∙◌, ◌<◌, ◌-◌, sym, refl, suc, arith}
use Rattle.std.proofs.lemmas.Bool.{not-false}
use Rattle.design.specs.Connections.{to_net}
use Rattle.design.specs.Keys.{netlist}
use Rattle.fourstate.specs.kept.ValueLaws.{is_same}
use Rattle.scratch.specs.Run.{value}
use Rattle.rundiff.specs.kept.Places.{net_at}
use Rattle.rundiff.specs.kept.Kept.{read_at}
use Rattle.rundiff.proofs.spreading.changes.Goals as goal

pub returns : goal.returns
returns g c = λ off.
    let answer = g.S.Stepper.answer in
    let old = netlist c.args.former.now.old.now in
    let new = netlist c.args.former.now.new.now in
    let x = net_at new c.args.place in
    let stored = c.former_wave-was.ensures answer c.requires.run in
    let below : c.args.t < suc old.horizon = let h = c.requires.within in omega arith in
    let below_too : c.args.t - 1 < suc old.horizon = let h = c.requires.within in omega arith in
    let known : c.args.t < suc c.args.t = omega arith in
    let known_too : c.args.t - 1 < suc c.args.t = omega arith in
    let now = c.value_at.ensures.value (value answer new x) (read_at answer old (to_net x.name)) (suc old.horizon) (suc c.args.t) (λ t. refl) (λ t. refl) stored below known c.requires.wave in
    let before = c.value_at-before.ensures.value (value answer new x) (read_at answer old (to_net x.name)) (suc old.horizon) (suc c.args.t) (λ t. refl) (λ t. refl) stored below_too known_too c.requires.wave in
    let same = is_same c.value_at.result c.value_at-before.result (sym c.is_same.ensures ∙ not-false c.is_same.result off) in
    sym now ∙ same ∙ before
