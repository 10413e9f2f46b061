use Rattle.std.proofs.Common.{◌∙◌, ap, sym, ℕ, List, [], ◌∷◌, ◌++◌, not, map}
use Rattle.std.proofs.lemmas.List.Elements.{All-push}
use Rattle.gatestep.specs.Tasks.{IsReady}
use Rattle.rundiff.specs.kept.Fronts.{is_working}
use Rattle.rundiff.specs.kept.Places.{gate_at}
use Rattle.scratch.specs.Work.{task_at}
use Rattle.rundiff.proofs.Outcoming.{filter_off, filter_on, map_one_more}
use Rattle.rundiff.proofs.gates.add_working.Goals as goal

pub returns : goal.returns
returns c = λ answer old new t places before on is ready.
    let x = c.args.place in
    let out = c.args.out.now in
    let tasks = c.in_ok-push.ensures.items in
    let working = c.in_ok-push-2.ensures.items in
    record {
      working = working ∙ ap (λ (l : List ℕ). l ++ x ∷ []) before.working ∙ sym (filter_on (is_working answer old new t) places x on);
      tasks = tasks ∙ map_one_more (λ p. task_at answer new (gate_at new p) t) out.working.items out.tasks.items x c.args.task before.tasks is
          ∙ ap (λ (l : List ℕ). map (λ p. task_at answer new (gate_at new p) t) l) (sym working);
      ready = rw tasks (All-push (IsReady t) out.tasks.items c.args.task before.ready ready);
      resting = before.resting ∙ sym (filter_off (λ p. not (is_working answer old new t p)) places x (ap not on));
      states = before.states;
      can = before.can;
      same = before.same;
    }
