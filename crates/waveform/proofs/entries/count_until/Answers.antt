use Rattle.std.proofs.Common.{rules, nat_le, None}
use Rattle.std.proofs.lemmas.List.Sorted.{IsPartitionPoint-from_clause, IsPartitionedBy-leb}
use Rattle.waveform.proofs.Places.{times_rise, front_is_until, back_is_after}
use Rattle.waveform.proofs.entries.count_until.Goals as goal

pub returns-clause-until : goal.returns-clause-until
returns-clause-until g c =
    let f = g.V.Sample.stored in
    let t = c.args.t in
    let rise = times_rise f g.V.Sample.same g.V.Sample.drift None c.args.entries.now c.requires in
    let point = IsPartitionPoint-from_clause (λ x. nat_le (f x).0 t) c.args.entries.now c.partition_point.result c.partition_point.ensures.partitioned
    (IsPartitionedBy-leb (λ x. (f x).0) c.args.entries.now t rise) (λ a r k h. search rules) in
    front_is_until f t c.args.entries.now c.partition_point.result c.partition_point.ensures.bound point

pub returns-clause-after : goal.returns-clause-after
returns-clause-after g c =
    let f = g.V.Sample.stored in
    let t = c.args.t in
    let rise = times_rise f g.V.Sample.same g.V.Sample.drift None c.args.entries.now c.requires in
    let point = IsPartitionPoint-from_clause (λ x. nat_le (f x).0 t) c.args.entries.now c.partition_point.result c.partition_point.ensures.partitioned
    (IsPartitionedBy-leb (λ x. (f x).0) c.args.entries.now t rise) (λ a r k h. search rules) in
    back_is_after f t c.args.entries.now c.partition_point.result c.partition_point.ensures.bound point
