use Rattle.std.proofs.Common.{◌≡◌, ◌<◌, ◌≤◌, ◌*◌, ℕ, true, length, below_more, arith}
use Rattle.std.specs.Prelude.{slice_index}
use Rattle.vcd.specs.Changes.{some_changes_at}
use Rattle.vcd.proofs.UpcomingLemmas.{of_lesser}
use Rattle.vcd.proofs.upcoming.Upcoming.first_time.Goals as goal

pub loop-group-preserved : goal.loop-group-preserved
loop-group-preserved c =
    let time : ℕ = slice_index c.args.self.now.first c.loop-group.group in
    let inside : c.loop-group.group * 256 < length c.args.waves.now.waves = omega arith in
    let within : c.loop-group.first ≤ c.args.last = c.loop-group.invariant.0 in
    rw c.min-first.ensures (
      omega arith,
      below_more _ _
          (λ k h. let le : c.loop-group.first ≤ slice_index c.args.self.now.first k = c.loop-group.invariant.1 k h in omega arith) (omega arith),
      λ t le each.
          let least : t ≤ c.loop-group.first = c.loop-group.invariant.2 t le each in
          let here : t ≤ time = each c.loop-group.group inside in
          omega arith,
      of_lesser (λ s. s < c.args.last → some_changes_at c.args.waves.now.waves s ≡ true) c.loop-group.first time c.loop-group.invariant.3
          (λ before. c.requires c.loop-group.group inside (omega arith)),
    )
