use Rattle.std.proofs.Common.{◌≡◌, ◌∷◌, ◌++◌, [], All, arith}
use Rattle.std.proofs.lemmas.Grind.{common_steps}
use Rattle.std.proofs.lemmas.List.Elements.{All-push}
use Rattle.gatestep.specs.Tasks.{IsReady}
use Rattle.core_tests.specs.declared.pools.tasks.TheConstants.{MOMENT}
use Rattle.core_tests.proofs.pools.jobs.jobs.Goals as goal

pub loop-preserved : goal.loop-preserved
loop-preserved g c =
    let pushed : c.push.new.self.items ≡ c.loop.jobs.items ++ c.job.result ∷ [] = grind (arith, common_steps) in
    rw pushed (All-push (λ job. All (IsReady MOMENT) job.tasks.items) _ _ c.loop.invariant c.job.ensures)
