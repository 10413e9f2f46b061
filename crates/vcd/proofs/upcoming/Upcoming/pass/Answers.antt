use Rattle.std.proofs.Common.{◌≡◌, ◌<◌, ◌*◌, ◌-◌, ℕ, length, arith}
use Rattle.std.specs.Prelude.{min}
use Rattle.vcd.specs.kept.Kept.{lines_from}
use Rattle.vcd.proofs.UpcomingLemmas.{all_passed, lines_of_group, lines_whole}
use Rattle.vcd.proofs.Ways.{both}
use Rattle.vcd.proofs.upcoming.Upcoming.pass.Goals as goal

pub loop-group-preserved : goal.loop-group-preserved
loop-group-preserved g c =
    let count : ℕ = length c.args.waves.now.waves in
    let first : ℕ = c.loop-group.group * 256 in
    let inside : first < count = omega arith in (
      c.pass_group.ensures.ahead,
      rw (← lines_of_group c.args.waves.now.waves c.args.t c.loop-group.group inside)
          (both c.args.writer.now c.loop-group.writer c.pass_group.new.writer (lines_from c.args.waves.now.waves c.args.t 0 (min first count))
          (lines_from c.args.waves.now.waves c.args.t first (min 256 (count - first))) c.loop-group.invariant.1 c.pass_group.ensures.text),
    )

pub returns-clause-text : goal.returns-clause-text
returns-clause-text g c =
    let all : min (c.loop-group.group * 256) (length c.args.waves.now.waves) ≡ length c.args.waves.now.waves = omega arith in
    rw (← lines_whole c.args.waves.now.waves c.args.t) (rw all at c.loop-group.invariant.1)

pub returns-clause-ahead : goal.returns-clause-ahead
returns-clause-ahead g c =
    all_passed c.args.waves.now.waves c.args.t c.loop-group.group c.loop-group.self c.loop-group.left c.loop-group.invariant.0 (omega arith)
