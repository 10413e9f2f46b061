use Rattle.std.proofs.Common.{◌<◌, ◌-◌, arith, get_or, length, None}
use Rattle.std.proofs.lemmas.List.{get_or_default, get_or_read_under}
use Rattle.waveform.proofs.Places.{front_is_until, point_between, times_rise}
use Rattle.waveform.proofs.entries.count_near.Goals as goal

pub returns-else-time-t-2-clause-until : goal.returns-else-time-t-2-clause-until
returns-else-time-t-2-clause-until g c =
    let f = g.V.Sample.stored in let t = c.args.t in let xs = c.args.entries.now in let n = c.loop-count.count in let e = c.index-entries-near.result in
    let rise = times_rise f g.V.Sample.same g.V.Sample.drift None xs c.requires in
    let some = c.loop-count.invariant.some in let within = c.loop-count.invariant.within in let low = c.loop-count-test.true in
    let last : n - 1 < length xs = omega arith in
    front_is_until f t xs n within
    (point_between f xs rise n t some within (get_or xs (n - 1) e) (get_or_default xs (n - 1) e (get_or xs (n - 1) e) last) (c.loop-count.invariant.until e)
    (λ d before.
    let read = get_or_read_under xs n (length xs) c.index-entries-count.result d c.index-entries-count.is low (λ i. length xs) in
    let time = c.time-in-loop-count.ensures in let after = c.if-time-t-2.false in
    rw (← read) (rw (← time) after)))

pub returns-after-loop-count-clause-until : goal.returns-after-loop-count-clause-until
returns-after-loop-count-clause-until g c =
    let f = g.V.Sample.stored in let t = c.args.t in let xs = c.args.entries.now in let n = c.loop-count.count in let e = c.index-entries-near.result in
    let rise = times_rise f g.V.Sample.same g.V.Sample.drift None xs c.requires in
    let some = c.loop-count.invariant.some in let within = c.loop-count.invariant.within in let past = c.loop-count-test.false in
    let last : n - 1 < length xs = omega arith in
    front_is_until f t xs n within
    (point_between f xs rise n t some within (get_or xs (n - 1) e) (get_or_default xs (n - 1) e (get_or xs (n - 1) e) last) (c.loop-count.invariant.until e)
    (λ d before. absurd (omega arith)))
