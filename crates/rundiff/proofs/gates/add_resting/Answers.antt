use Rattle.std.proofs.Common.{◌∙◌, ap, sym, ℕ, List, [], ◌∷◌, ◌++◌, not, map}
use Rattle.std.proofs.lemmas.List.Elements.{All-push}
use Rattle.waveform.specs.kept.Entries.{CanStore}
use Rattle.scratch.specs.Run.{state_after}
use Rattle.rundiff.specs.kept.Fronts.{is_working}
use Rattle.rundiff.specs.kept.Places.{gate_at}
use Rattle.rundiff.proofs.Outcoming.{filter_off, filter_on, map_one_more}
use Rattle.rundiff.proofs.gates.add_resting.Goals as goal

pub returns : goal.returns
returns c = λ answer old new t places before off is can.
    let x = c.args.place in
    let out = c.args.out.now in
    let states = c.in_ok-push.ensures.items in
    let resting = c.in_ok-push-2.ensures.items in
    record {
      working = before.working ∙ sym (filter_off (is_working answer old new t) places x off);
      tasks = before.tasks;
      ready = before.ready;
      resting = resting ∙ ap (λ (l : List ℕ). l ++ x ∷ []) before.resting ∙ sym (filter_on (λ p. not (is_working answer old new t p)) places x (ap not off));
      states = states ∙ map_one_more (λ p. state_after answer new (gate_at new p) t) out.resting.items out.states.items x c.args.state before.states is
          ∙ ap (λ (l : List ℕ). map (λ p. state_after answer new (gate_at new p) t) l) (sym resting);
      can = rw states (All-push (CanStore t) out.states.items c.args.state before.can can);
      same = before.same;
    }
