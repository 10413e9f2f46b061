use Rattle.std.proofs.Common.{◌∙◌, ap, sym, subst, List, Option, ℕ, nat_cmp}
use Rattle.std.specs.BTreeSet.{contains}
use Rattle.fourstate.specs.declared.value.Value.{Value}
use Rattle.gatestep.specs.Step.{State}
use Rattle.waveform.specs.kept.Tables.{line_at}
use Rattle.rundiff.specs.kept.Finishing.{AreCleared}
use Rattle.rundiff.proofs.Finished.{traces_right, waves_right}
use Rattle.rundiff.proofs.front.Front.give_run.Goals as goal

pub returns : goal.returns
returns g c =
    let answer = g.S.Stepper.answer in
    let old = c.args.former.now.old.now in let new = c.args.former.now.new.now in
    let run = c.args.former.now.run.now in let copy = c.in_ok-made.made in
    let nets = c.args.touched.now.nets.items in let gates = c.args.touched.now.gates.items in
    let live = contains nat_cmp c.hold_all.new.live in
    let held = contains nat_cmp c.hold_all.new.held in
    let hold = c.in_ok-hold_all.ensures in
    let found = hold.touched in
    let waves = c.in_ok-put_live.ensures.waves in
    let traces = c.in_ok-put_held.ensures.traces in
    let cleared : AreCleared gates run.traces c.put_live.new.made.traces =
    subst (λ (lines : List (Option (List (ℕ × State)))). AreCleared gates run.traces lines) (sym c.put_live.ensures.traces) c.in_ok-made.ensures.traces in
    record {
      waves = λ key.
          ap (λ (lines : List (Option (List (ℕ × Value)))). line_at lines key) c.put_held.ensures.waves
          ∙ waves_right answer old new c.lawful.ensures.design c.lawful-2.ensures.design c.lawful-2.ensures.keys c.places_are_keys.ensures.nets c.requires.horizon c.args.self.now c.requires.front
          nets gates found.0 c.requires.touched found.1 live held hold.drivers hold.more found.2 hold.waves hold.traces
          c.same_changes.ensures run.waves copy.waves c.put_live.new.made.waves c.requires.run.waves c.in_ok-made.ensures.waves waves.0 waves.1.all waves.2 key;
      traces = traces_right answer old new c.lawful.ensures.design c.lawful-2.ensures.design c.lawful-2.ensures.keys c.places_are_keys.ensures.nets c.requires.horizon c.args.self.now c.requires.front
          nets gates found.0 c.requires.touched found.1 live held hold.drivers hold.more found.2 hold.waves hold.traces
          c.same_changes-2.ensures run.traces c.put_live.new.made.traces c.put_held.new.made.traces c.requires.run.traces cleared traces.0 traces.1.all traces.2;
      horizon = c.put_held.ensures.horizon ∙ c.put_live.ensures.horizon ∙ c.in_ok-made.ensures.horizon ∙ c.requires.run.horizon ∙ sym c.requires.horizon;
    }
