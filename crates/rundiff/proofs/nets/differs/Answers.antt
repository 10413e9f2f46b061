use Rattle.std.proofs.Common.{◌∙◌, ◌<◌, ap, sym, refl, suc, arith, ℕ, List, inr}
use Rattle.std.proofs.lemmas.Bool.{not-false}
use Rattle.fourstate.specs.declared.value.Value.{Value}
use Rattle.fourstate.specs.declared.value.Value.TheVariants.{Unknown}
use Rattle.design.specs.Connections.{to_net}
use Rattle.design.specs.Keys.{netlist}
use Rattle.waveform.specs.Changes.{wave_changes_below}
use Rattle.waveform.specs.Entries.{standing}
use Rattle.fourstate.specs.kept.ValueLaws.{is_same}
use Rattle.waveform.specs.Timelines.{value_by}
use Rattle.scratch.specs.Run.{value}
use Rattle.rundiff.specs.kept.Places.{blank_net, net_at}
use Rattle.rundiff.specs.kept.Kept.{read_at}
use Rattle.rundiff.proofs.EachPlace.{line_named}
use Rattle.rundiff.proofs.nets.differs.Goals as goal

pub returns : goal.returns
returns g c = λ off.
    let answer = g.S.Stepper.answer in
    let old = netlist c.args.former.now.old.now in
    let new = netlist c.args.former.now.new.now in
    let x = net_at new c.args.place in
    let stored = line_named (λ n. n.name) (λ name. wave_changes_below (read_at answer old (to_net name)) (suc old.horizon)) new.nets c.args.place c.net_at.result.now blank_net c.as_str.result.now c.old_wave-was.result.now
    c.net_at.ensures (c.as_str.ensures ∙ c.name.ensures) (c.old_wave-was.ensures answer c.requires.run) in
    let below : c.args.t < suc old.horizon = let h = c.requires.within in omega arith in
    let known : c.args.t < suc c.args.t = omega arith in
    let mine = c.value_at.ensures.value (value answer new x) (read_at answer old (to_net x.name)) (suc old.horizon) (suc c.args.t) (λ t. refl) (λ t. refl) (inr stored) below known c.requires.wave in
    let theirs = c.at.ensures.value ∙ ap (λ (xs : List (ℕ × Value)). value_by standing Unknown xs c.args.t) stored
    ∙ c.value_of_changes.ensures (read_at answer old (to_net x.name)) (λ t. refl) c.args.t (suc old.horizon) below in
    let same = is_same c.value_at.result c.at.result (sym c.is_same.ensures ∙ not-false c.is_same.result off) in
    sym theirs ∙ sym same ∙ mine
