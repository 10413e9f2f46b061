use Rattle.std.proofs.Common.{◌≤◌, length, arith}
use Rattle.fourstate.specs.declared.value.Value.TheVariants.{Zero}
use Rattle.design.proofs.PointLemmas.{set_here, insert_here}
use Rattle.design.proofs.points.place_of.Goals.{else-place-points-via-then-place-points+else-points-place, else-place-points-via-else-place-points}
use Rattle.design.proofs.points.place_of.Goals as goal

pub returns-then-points-place-clause-found : goal.returns-then-points-place-clause-found
returns-then-points-place-clause-found c =
    let points = c.args.points.now in
    let place = c.count_before-place.result in
    record {
      within = c.if-place-points.true;
      set = λ v. set_here points c.args.t place v (0, Zero) c.count_before-place.ensures.split c.if-place-points.true c.if-points-place.true;
    }

pub returns-else-place-points-clause-absent : goal.returns-else-place-points-clause-absent
returns-else-place-points-clause-absent c =
    let points = c.args.points.now in
    let place = c.count_before-place.result in
    let split = c.count_before-place.ensures.split in
    let within : place ≤ length points = c.count_before-place.ensures.within in
    elim c.else-place-points.branch [
      | else-place-points-via-then-place-points+else-points-place w ↦ record {
        within = within;
        set = λ v. insert_here points c.args.t place v split within (0, Zero) (λ _. w.if-points-place.false);
      }
      | else-place-points-via-else-place-points w ↦ record {
        within = within;
        set = λ v. insert_here points c.args.t place v split within (0, Zero) (λ inside. absurd (omega arith));
      }
    ]
