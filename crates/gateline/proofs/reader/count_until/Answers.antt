use Rattle.std.proofs.Common.{◌<◌, sym, subst, ℕ, nat_le, All, drop, rules}
use Rattle.std.proofs.lemmas.List.Sorted.{IsPartitionPoint-from_clause, IsPartitionedBy-leb}
use Rattle.fourstate.specs.declared.value.Value.{Value}
use Rattle.gateline.proofs.Goes.{all_before, all_behind, others_after, some_until, times_rise}
use Rattle.gateline.proofs.reader.count_until.Goals as goal

pub returns-then-t-eq0-clause-after : goal.returns-then-t-eq0-clause-after
returns-then-t-eq0-clause-after c =
    subst (λ t. All (λ (e : ℕ × Value). t < e.0) (drop 1 c.args.changes.now)) (sym c.if-t-eq0.true) (others_after c.args.changes.now c.requires)

pub returns : goal.returns
returns c =
    let changes = c.args.changes.now in let count = c.partition_point.result in
    let point = IsPartitionPoint-from_clause (λ (e : ℕ × Value). nat_le e.0 c.args.t) changes count c.partition_point.ensures.partitioned
    (IsPartitionedBy-leb (λ (e : ℕ × Value). e.0) changes c.args.t (times_rise changes c.requires)) (λ a r f h. search rules) in
    let after = all_behind c.args.t changes count point.1 in
    record {
      begun = some_until c.args.t changes count c.requires after;
      within = c.partition_point.ensures.bound;
      until = all_before c.args.t changes count point.0;
      after = after;
    }
