use Rattle.std.proofs.Common.{◌<◌, ◌≤◌, ◌∙◌, length, length-set, arith}
use Rattle.vcd.proofs.UpcomingLemmas.{ahead_at_start, waves_more}
use Rattle.vcd.proofs.upcoming.Upcoming.at_start.Goals as goal

pub loop-place-preserved : goal.loop-place-preserved
loop-place-preserved c =
    let inside : c.loop-place.place < length c.loop-place.left = omega arith in (
      waves_more c.args.waves.now.waves c.loop-place.place c.changes.result c.loop-place.left inside
          (c.changes.ensures ∙ c.wave.ensures) c.loop-place.invariant.0,
      length-set c.loop-place.left c.loop-place.place c.changes.result ∙ c.loop-place.invariant.1,
    )

pub returns : goal.returns
returns c =
    let few : length c.args.waves.now.waves ≤ 65536 = c.lawful.ensures.few in
    ahead_at_start c.args.waves.now.waves c.loop-place.left 65536 4096 256 few few few c.lawful.ensures.timelines
    (λ k below. c.loop-place.invariant.0 k (omega arith)) (omega arith)
