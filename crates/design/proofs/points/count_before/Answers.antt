use Rattle.std.proofs.Common.{ℕ, nat_lt, rules}
use Rattle.std.proofs.lemmas.List.Sorted.{IsPartitionPoint-from_clause, IsPartitionedBy-ltb}
use Rattle.fourstate.specs.declared.value.Value.{Value}
use Rattle.design.proofs.PointLemmas.{non_decreasing}
use Rattle.design.proofs.points.count_before.Goals as goal

pub returns-clause-split : goal.returns-clause-split
returns-clause-split c =
    let points = c.args.points.now in
    IsPartitionPoint-from_clause (λ (p : ℕ × Value). nat_lt p.0 c.args.t) points _ c.partition_point.ensures.partitioned
    (IsPartitionedBy-ltb (λ (p : ℕ × Value). p.0) points c.args.t (non_decreasing points c.requires)) (λ a r f h. search rules)
