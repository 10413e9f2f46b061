use Rattle.std.proofs.Common.{◌≡◌, ◌+◌, ◌∷◌, ◌++◌, [], arith}
use Rattle.std.proofs.lemmas.Grind.{common_steps}
use Rattle.std.proofs.lemmas.List.Elements.{All-push}
use Rattle.gatestep.specs.Tasks.{IsReady}
use Rattle.core_tests.specs.declared.pools.tasks.TheConstants.{MOMENT}
use Rattle.core_tests.proofs.pools.tasks.tasks.Goals as goal

pub loop-preserved : goal.loop-preserved
loop-preserved g c =
    let pushed : c.push.new.self.items ≡ c.loop.tasks.items ++ c.task.result ∷ [] = grind (arith, common_steps) in
    rw pushed (All-push (IsReady MOMENT) _ _ c.loop.invariant c.task.ensures)
