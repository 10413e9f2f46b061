use Rattle.std.proofs.Common.{◌≡◌, ◌∷◌, ◌++◌, [], subst, sym, arith}
use Rattle.std.proofs.lemmas.Grind.{common_steps}
use Rattle.gatestep.proofs.Jobs.{zip_push}
use Rattle.parstep.specs.kept.Jobs.{Holds}
use Rattle.parstep.proofs.places.outputs_of.Goals as goal

pub loop-place-preserved : goal.loop-place-preserved
loop-place-preserved g c =
    let pushed : c.push.new.self.items ≡ c.loop-place.outputs.items ++ c.in_ok-output.output ∷ [] = grind (arith, common_steps) in
    let held : Holds c.in-Some.place c.in_ok-output.output = subst (λ it. Holds it c.in_ok-output.output) (sym c.in-Some-place.is) c.in_ok-output.was in
    record {
      outputs = rw pushed (zip_push Holds c.loop-place.yielded c.loop-place.outputs.items c.in-Some.place c.in_ok-output.output c.loop-place.invariant.outputs held);
      count = grind (arith, common_steps);
      fits = grind (arith, common_steps);
    }
