use Rattle.std.proofs.Common.{◌≡◌, ◌≤◌, ◌+◌, ◌++◌, suc, arith}
use Rattle.vcd.specs.Changes.{change_lines, lines_below, time_line}
use Rattle.vcd.proofs.MomentLemmas.{ahead_later, first_lines, is_later, lines_to}
use Rattle.vcd.proofs.Ways.{both}
use Rattle.vcd.proofs.moments.moments.Goals as goal

pub loop-t-init : goal.loop-t-init
loop-t-init g c =
    (c.first_moment.ensures.ahead, omega arith, rw (first_lines c.args.waves.now.waves c.args.waves.now.horizon) c.first_moment.ensures.text)

pub later_moment-requires-clause-ahead : goal.later_moment-requires-clause-ahead
later_moment-requires-clause-ahead g c =
    let later : c.loop-t.t + 1 ≤ c.first_time-t.result =
    c.first_time-t.ensures.no_earlier (c.loop-t.t + 1) (omega arith) (is_later c.args.waves.now.waves (c.loop-t.t + 1) c.loop-t.upcoming c.loop-t.left c.loop-t.invariant.0) in
    ahead_later c.args.waves.now.waves (c.loop-t.t + 1) c.first_time-t.result c.loop-t.upcoming c.loop-t.left c.loop-t.invariant.0 later c.first_time-t.ensures.each

pub loop-t-smaller : goal.loop-t-smaller
loop-t-smaller g c =
    let later : c.loop-t.t + 1 ≤ c.first_time-t.result =
    c.first_time-t.ensures.no_earlier (c.loop-t.t + 1) (omega arith) (is_later c.args.waves.now.waves (c.loop-t.t + 1) c.loop-t.upcoming c.loop-t.left c.loop-t.invariant.0) in
    omega arith

pub loop-t-preserved : goal.loop-t-preserved
loop-t-preserved g c =
    let later : c.loop-t.t + 1 ≤ c.first_time-t.result =
    c.first_time-t.ensures.no_earlier (c.loop-t.t + 1) (omega arith) (is_later c.args.waves.now.waves (c.loop-t.t + 1) c.loop-t.upcoming c.loop-t.left c.loop-t.invariant.0) in (
      c.later_moment.ensures.ahead,
      c.first_time-t.ensures.within,
      rw (lines_to c.args.waves.now.waves c.args.waves.now.horizon c.loop-t.t c.first_time-t.result c.loop-t.upcoming c.loop-t.left c.loop-t.invariant.0 (omega arith) (omega arith)
          c.first_time-t.ensures.each (λ before. c.first_time-t.ensures.change (omega arith)))
          (both c.args.writer.now c.loop-t.writer c.later_moment.new.writer (lines_below c.args.waves.now.waves c.args.waves.now.horizon (suc c.loop-t.t))
          (time_line c.first_time-t.result ++ change_lines c.args.waves.now.waves c.first_time-t.result) c.loop-t.invariant.2 c.later_moment.ensures.text),
    )

pub returns : goal.returns
returns g c =
    let at_end : c.loop-t.t ≡ c.args.waves.now.horizon = omega arith in
    rw at_end at c.loop-t.invariant.2
