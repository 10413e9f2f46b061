use Rattle.std.proofs.Common.{◌≡◌, ◌∙◌, ◌+◌, ap, sym, refl, suc, ℕ, List, Option, Some, subst, arith, option_map}
use Rattle.std.proofs.lemmas.Option.{slice_get-get_or}
use Rattle.fourstate.specs.declared.value.Value.{Value}
use Rattle.fourstate.specs.Values.{same_value}
use Rattle.catalog.specs.kept.Catalog.{keys_of}
use Rattle.design.specs.Connections.{to_net}
use Rattle.design.specs.Keys.{netlist}
use Rattle.design.specs.kept.Keys.{net_by_key}
use Rattle.waveform.specs.Changes.{wave_changes_below}
use Rattle.waveform.specs.Entries.{standing}
use Rattle.waveform.specs.kept.Patches.{Keeps, PatchRecord}
use Rattle.event_queue.proofs.Changes.{by_ok}
use Rattle.scratch.specs.Run.{value, wave_of}
use Rattle.rundiff.specs.kept.Finishing.{new_wave}
use Rattle.rundiff.specs.kept.Places.{blank_net, net_at}
use Rattle.rundiff.specs.kept.Kept.{read_at}
use Rattle.rundiff.proofs.Putting.{put_one}
use Rattle.rundiff.proofs.EachPlace.{line_named}
use Rattle.rundiff.proofs.finishing.put_wave.Goals as goal

pub returns-clause-waves : goal.returns-clause-waves
returns-clause-waves g c =
    let answer = g.S.Stepper.answer in
    let old = netlist c.args.former.now.old.now in
    let keyed = c.args.former.now.new.now in let new = netlist keyed in
    let place = c.args.place in
    let x = net_at new place in
    let end : c.horizon.result + 1 ≡ suc new.horizon = let h = c.horizon.ensures.horizon in omega arith in
    let same_end : suc old.horizon ≡ c.horizon.result + 1 = let h = c.horizon.ensures.horizon in let e = c.requires.horizon in omega arith in
    let stored : c.old_wave-was.result.now ≡ wave_changes_below (read_at answer old (to_net x.name)) (c.horizon.result + 1) =
    line_named (λ n. n.name) (λ name. wave_changes_below (read_at answer old (to_net name)) (suc old.horizon)) new.nets place c.net_at.result.now blank_net c.as_str.result.now c.old_wave-was.result.now
    c.net_at.ensures (c.as_str.ensures ∙ c.name.ensures) (c.old_wave-was.ensures answer c.requires.run) ∙ ap (wave_changes_below (read_at answer old (to_net x.name))) same_end in
    let Keep : Option (PatchRecord Value) → ℕ → Type 0 = λ o n. Keeps same_value standing (read_at answer old (to_net x.name)) (value answer new x) o n in
    let keeps : Keep c.take.result (c.horizon.result + 1) =
    subst (λ (n : ℕ). Keep c.take.result n) (sym end) (subst (λ (o : Option (PatchRecord Value)). Keep o (suc new.horizon)) (sym c.take.ensures.value) c.requires.wave) in
    let line : c.in_ok-wave.wave ≡ wave_of answer new x =
    c.in_ok-wave.ensures (value answer new x) (read_at answer old (to_net x.name)) (λ t. refl) (λ t. refl) stored keeps
    ∙ ap (wave_changes_below (value answer new x)) end in
    let found : net_by_key keyed c.net_key_at-key.result ≡ Some x = c.net_key_at-key.ensures.net ∙ slice_get-get_or new.nets place blank_net c.requires.there in
    let due : new_wave answer keyed c.net_key_at-key.result ≡ Some c.in_ok-wave.wave = ap (option_map (wave_of answer new)) found ∙ ap (λ (w : List (ℕ × Value)). Some w) (sym line) in
    by_ok c.put_wave.result c.put_wave.ensures.ok
    (λ changed. put_one (new_wave answer keyed) (keys_of keyed.nets) place c.number.result c.in_ok-wave.wave c.args.made.now.waves c.put_wave.new.self.waves
    (c.net_key_at-key.ensures.key ∙ ap (λ (k : ℕ). Some k) (sym c.number.ensures)) (ap (new_wave answer keyed) c.number.ensures ∙ due) changed)
