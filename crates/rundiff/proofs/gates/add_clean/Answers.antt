use Rattle.std.proofs.lemmas.List.Elements.{All-push}
use Rattle.event_queue.proofs.Changes.{by_ok}
use Rattle.rundiff.specs.kept.Fronts.{IsClean}
use Rattle.rundiff.proofs.gates.add_clean.Goals as goal

pub returns : goal.returns
returns c = by_ok c.add_resting.result c.add_resting.ensures (λ add answer old new t places before off is can same.
    add answer old new t places (record {
      working = before.working;
      tasks = before.tasks;
      ready = before.ready;
      resting = before.resting;
      states = before.states;
      can = before.can;
      same = rw c.in_ok-push.ensures.items (All-push (IsClean answer old new t) c.args.out.now.clean.items c.args.place before.same same);
    }) off is can)
