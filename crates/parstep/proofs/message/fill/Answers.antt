use Rattle.std.proofs.Common.{◌≡◌, ◌+◌, ◌∷◌, ◌++◌, [], arith}
use Rattle.std.proofs.lemmas.Grind.{common_steps}
use Rattle.std.proofs.lemmas.List.Elements.{All-push}
use Rattle.gatestep.specs.Tasks.{PendingFrom}
use Rattle.parstep.proofs.message.fill.Goals as goal

pub loop-task-preserved : goal.loop-task-preserved
loop-task-preserved c =
    let pushed : c.push.new.self.items ≡ c.loop-task.drivers.items ++ c.next.result ∷ [] = grind (arith, common_steps) in
    record {
      answers = grind (arith, common_steps);
      later = rw pushed (All-push (PendingFrom (c.args.t + 1)) _ _ c.loop-task.invariant.later c.next.ensures.later);
      filled = grind (arith, common_steps);
      fits = grind (arith, common_steps);
    }
